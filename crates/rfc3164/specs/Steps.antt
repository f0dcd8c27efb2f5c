-- For private contracts alone: steps of the reading, by positions of the line.
use Rattle.std.specs.Prelude.{ℕ, ◌+◌, ◌≤◌, List, Bool, ◌&&◌, eqb, length, Option, Some, None}
use Rattle.base.specs.Choose.{is_at}
use Rattle.record.specs.Places.{absent}
use Rattle.record.specs.declared.Span.{Span}
use Rattle.record.specs.declared.Record.{Record}
use Rattle.record.specs.declared.Protocol.TheVariants.{Rfc3164}
use Rattle.pri.specs.declared.Pri.{Pri}
use Rattle.parsers.specs.Steps.{blanks_from}
use Rattle.structured_data.specs.Data.{Rows, data_from, rows_or}
use Rattle.structured_data.specs.declared.Rules.TheVariants.{Rfc3164Rules}
use Rattle.rfc3164.specs.declared.Names.{Names}
use Rattle.rfc3164.specs.declared.Rest.{Rest}
use Rattle.record.specs.declared.Place.{Place}
use Rattle.record.specs.declared.Timestamp.{Timestamp}

-- the byte at `end` is a `]`, and the last
abbrev pub closes_at : List ℕ → ℕ → Bool
closes_at t end = is_at t end 93 && eqb (end + 1) (length t)

-- a field's text lies in the line
abbrev pub FieldWithin : List ℕ → Option (Place × ℕ) → Type 0
FieldWithin s None = Unit {0}
FieldWithin s (Some x) = x.0.start + x.0.len ≤ length s

-- what is counted of the rows, and the message after them
abbrev pub rest_of : List ℕ → Rows → Rest
rest_of s rows = record { elements = length rows.elements; params = length rows.params; message = blanks_from s rows.next }

abbrev pub rest_from : List ℕ → ℕ → Rest
rest_from s at = rest_of s (rows_or at (data_from Rfc3164Rules s at))

abbrev pub record_of : Pri → Option Timestamp → Names → Span → Record
record_of pri stamp names message =
    record {
      protocol = Rfc3164;
      facility = pri.facility;
      severity = pri.severity;
      timestamp = stamp;
      host = names.host;
      app = names.app;
      procid = names.procid;
      msgid = absent;
      message = message;
    }
