-- For private contracts alone: what the service knows of two lines before a table is touched.
use Rattle.std.specs.Prelude.{Bool, true, false, Option, Some, None, Result, Ok, Err}
use Rattle.record.specs.Records.{empty_record}
use Rattle.record.specs.declared.Reading.{Reading}
use Rattle.record.specs.declared.Reading.TheVariants.{Read, Whole}
use Rattle.loose.specs.declared.Judged.{Judged}
use Rattle.loose.specs.declared.Judged.TheVariants.{Settled, Fitting}
use Rattle.differ.specs.declared.Line.{Line}
use Rattle.record.specs.declared.Refusal.{Refusal}
use Rattle.record.specs.declared.Refusal.TheVariants.{NoReading}

abbrev pub is_read : Result Reading Refusal → Bool
is_read (Ok (Read r e p)) = true
is_read (Ok (Whole r)) = false
is_read (Err f) = false

-- why a line is refused, if it is
abbrev pub refusal_of : Result Reading Refusal → Option Refusal
refusal_of (Ok (Read r e p)) = None
refusal_of (Ok (Whole r)) = Some NoReading
refusal_of (Err f) = Some f

abbrev pub line_of : Judged → Line
line_of (Settled x) = record { read = empty_record; end = 0; ids = 0; params = 0 }
line_of (Fitting rules end at r n m) = record { read = r; end = end; ids = n; params = m }
