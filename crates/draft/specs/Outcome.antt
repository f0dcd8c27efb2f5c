-- What the rules give of a line: no reading, or the record, the position of the structured data, and the rows of both tables.
use Rattle.std.specs.Prelude.{ℕ}
use Rattle.record.specs.declared.Record.{Record}
use Rattle.structured_data.specs.Data.{Rows}

pub data Outcome : Type 0 where
  no_reading : Outcome
  is_reading : (read : Record) (at : ℕ) (rows : Rows) → Outcome
