-- What is handed in over a lent text, and the contract of the writer: refusals 7, 17, 1 and 8, the length, and the output.
use Rattle.std.specs.Prelude as std
use Rattle.std.specs.Prelude.{ℕ, ◌≡◌, not, List, ltb, eqb, length, take, if◌then◌else◌, Some, None, Result, Ok, Err}
use Rattle.std.proofs.Math.Option.{Option, none, some}
use Rattle.base.specs.Texts.{text_at}
use Rattle.record.specs.Limits.{line_limit}
use Rattle.record.specs.declared.Place.{Place}
use Rattle.record.specs.declared.Protocol.TheVariants.{Rfc5424}
use Rattle.record.specs.declared.Record.{Record}
use Rattle.record.specs.declared.Refusal.TheVariants.{Unsuitable, Unwritable, LineTooLong, OutputShort}
use Rattle.output.specs.Output.{output_after}
use Rattle.suits.specs.Suits.{suits}
use Rattle.writes.specs.declared.Part.{Part}
use Rattle.writes.specs.declared.Handed.{Handed}
use Rattle.writes.specs.Fields.{Fields}
use Rattle.writes.specs.Written.{written}
use Rattle.writes.specs.Told.{told_elements}
use Rattle.writes.specs.Fits.{fields_fit}
use Rattle.record.specs.declared.Timestamp.{Timestamp}
use Rattle.record.specs.declared.Refusal.{Refusal}

-- a text of the lent text, absent where its mark is 0
abbrev pub part_in : List ℕ → Part → Option (List ℕ)
part_in text p = if eqb p.present 0 then none else some (text_at text p.start p.len)

abbrev pub stamp_in : Handed → std.Option Timestamp
stamp_in h =
    if eqb h.stamped 0 then None
    else Some (record { seconds = h.seconds; nanos = h.nanos; digits = h.digits; offset = h.offset })

-- the fields that are handed in; values are raw
unfoldable pub fields_in : List ℕ → Handed → List (List ℕ) → List (List ℕ) → Fields
fields_in text h elements params =
    record {
      priority = h.priority;
      version = h.version;
      timestamp = stamp_in h;
      host = part_in text h.host;
      app = part_in text h.app;
      procid = part_in text h.procid;
      msgid = part_in text h.msgid;
      elements = told_elements text 0 (take h.element_count elements) (take h.param_count params);
      message = part_in text h.message;
    }

-- timestamp and places as a record, which refusal 7 asks of a text as of a line
abbrev pub place_in : Part → Place
place_in p = record { present = not (eqb p.present 0); start = p.start; len = p.len }

abbrev pub record_in : Handed → Record
record_in h =
    record {
      protocol = Rfc5424 h.version;
      facility = None;
      severity = None;
      timestamp = stamp_in h;
      host = place_in h.host;
      app = place_in h.app;
      procid = place_in h.procid;
      msgid = place_in h.msgid;
      message = record { start = h.message.start; len = h.message.len };
    }

unfoldable pub answered : List ℕ → Handed → List (List ℕ) → List (List ℕ) → ℕ → Result ℕ Refusal
answered text h elements params room =
    let f = fields_in text h elements params in
    if not (suits text (record_in h) h.element_count h.param_count elements params) then Err Unsuitable
    else if not (fields_fit f) then Err Unwritable
    else if ltb line_limit (length (written f)) then Err LineTooLong
    else if ltb room (length (written f)) then Err OutputShort
    else Ok (length (written f))

pub record Writes (text : List ℕ) (h : Handed) (elements params : List (List ℕ)) (before : List ℕ) (w : Result ℕ Refusal) (after : List ℕ) : Type 0 where
  pub answer : w ≡ answered text h elements params (length before)
  pub output : after ≡ output_after w (written (fields_in text h elements params)) before
