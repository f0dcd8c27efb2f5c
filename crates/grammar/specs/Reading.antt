-- What the strict reader answers to a division: the record, the counts and the rows of both tables; and the contract of a reading.
use Rattle.std.specs.Prelude.{ℕ, ◌+◌, ◌-◌, ◌*◌, ◌/◌, ◌%◌, ◌^◌, ◌<◌, ◌≤◌, ◌≡◌, Bool, true, false, ◌&&◌, List, [], ◌∷◌, ◌++◌, length, eqb, ℤ, pos, neg_ℤ, if◌then◌else◌, Some, None, Result, Ok, Err}
use Rattle.std.specs.Prelude as std
use Rattle.std.proofs.Math.Option.{Option, none, some}
use Rattle.base.specs.Choose.{is_at}
use Rattle.base.specs.Fills.{filled}
use Rattle.record.specs.Limits.{line_limit}
use Rattle.digits.specs.Digits.{decimal}
use Rattle.calendar.specs.Instant.{seconds_of}
use Rattle.record.specs.Places.{absent, place}
use Rattle.record.specs.declared.Place.{Place}
use Rattle.record.specs.declared.Span.{Span}
use Rattle.record.specs.declared.Protocol.TheVariants.{Rfc5424}
use Rattle.record.specs.declared.StrictRecord.{StrictRecord}
use Rattle.record.specs.declared.StrictReading.{StrictReading}
use Rattle.record.specs.declared.Timestamp as stamped
use Rattle.record.specs.declared.Refusal.{Refusal}
use Rattle.record.specs.declared.Refusal.TheVariants.{LineTooLong, NoReading, TooManyElements, TooManyParams}
use Rattle.grammar.specs.Line.{Param, Element, Offset, Timestamp, Division, timestamp_then, param_then, element_then, data_then, Derives}

-- ---- where the fields start

abbrev pub timestamp_at : Division → ℕ
timestamp_at d = length d.prival + length d.version + 3

abbrev pub timestamp_len : Division → ℕ
timestamp_len d = length (timestamp_then d.timestamp [])

abbrev pub hostname_at : Division → ℕ
hostname_at d = timestamp_at d + timestamp_len d + 1

abbrev pub app_name_at : Division → ℕ
app_name_at d = hostname_at d + length d.hostname + 1

abbrev pub procid_at : Division → ℕ
procid_at d = app_name_at d + length d.app_name + 1

abbrev pub msgid_at : Division → ℕ
msgid_at d = procid_at d + length d.procid + 1

abbrev pub data_at : Division → ℕ
data_at d = msgid_at d + length d.msgid + 1

-- after the structured data
abbrev pub data_end : Division → ℕ
data_end d = data_at d + length (data_then d.elements [])

-- ---- the record

-- a text's place; "-" is absent
abbrev pub place_of : ℕ → List ℕ → Place
place_of at t = if eqb (length t) 1 && is_at t 0 45 then absent else place at (length t)

-- minutes east of UTC
abbrev pub offset_of : Offset → ℤ
offset_of Offset.utc = pos 0
offset_of (Offset.east h m) = pos (decimal h * 60 + decimal m)
offset_of (Offset.west h m) = neg_ℤ (pos (decimal h * 60 + decimal m))

abbrev pub nanos_of : Option (List ℕ) → ℕ
nanos_of none = 0
nanos_of (some f) = decimal f * 10 ^ (9 - length f)

-- how many digits the fraction has
abbrev pub digits_of : Option (List ℕ) → ℕ
digits_of none = 0
digits_of (some f) = length f

abbrev pub stamp_of : Option Timestamp → std.Option stamped.Timestamp
stamp_of none = None
stamp_of (some t) =
    Some (record {
      seconds = seconds_of (record {
        year = decimal t.year;
        month = decimal t.month;
        day = decimal t.day;
        hour = decimal t.hour;
        minute = decimal t.minute;
        second = decimal t.second;
      }) (offset_of t.offset);
      nanos = nanos_of t.secfrac;
      digits = digits_of t.secfrac;
      offset = offset_of t.offset;
    })

abbrev pub timestamp_place : Division → Option Timestamp → Place
timestamp_place d none = absent
timestamp_place d (some t) = place (timestamp_at d) (timestamp_len d)

abbrev pub message_flag : Option (List ℕ) → Bool
message_flag none = false
message_flag (some m) = true

-- the message after its space; an absent one has start and length 0
abbrev pub message_span : ℕ → Option (List ℕ) → Span
message_span at none = record { start = 0; len = 0 }
message_span at (some m) = record { start = at + 1; len = length m }

unfoldable pub record_of : Division → StrictRecord
record_of d =
    record {
      common = record {
        protocol = Rfc5424 (decimal d.version);
        facility = Some (decimal d.prival / 8);
        severity = Some (decimal d.prival % 8);
        timestamp = stamp_of d.timestamp;
        host = place_of (hostname_at d) d.hostname;
        app = place_of (app_name_at d) d.app_name;
        procid = place_of (procid_at d) d.procid;
        msgid = place_of (msgid_at d) d.msgid;
        message = message_span (data_end d) d.message;
      };
      timestamp_text = timestamp_place d d.timestamp;
      has_message = message_flag d.message;
    }

-- ---- the counts and the tables

abbrev pub param_count : List Element → ℕ
param_count [] = 0
param_count (e ∷ es) = length e.params + param_count es

-- the rows of the elements, whose first `[` is at `at`: the place of the id
abbrev pub element_rows : ℕ → List Element → List (List ℕ)
element_rows at [] = []
element_rows at (e ∷ es) = ((at + 1) ∷ length e.id ∷ []) ∷ element_rows (at + length (element_then e [])) es

-- the rows of the parameters of element k, whose first space is at `at`: the element, the name's place, the value's place between its quotes
abbrev pub rows_of_params : ℕ → ℕ → List Param → List (List ℕ)
rows_of_params k at [] = []
rows_of_params k at (p ∷ ps) =
    (k ∷ (at + 1) ∷ length p.name ∷ (at + length p.name + 3) ∷ length p.value ∷ [])
    ∷ rows_of_params k (at + length (param_then p [])) ps

-- the rows of the parameters of all elements from element k on
abbrev pub param_rows : ℕ → ℕ → List Element → List (List ℕ)
param_rows k at [] = []
param_rows k at (e ∷ es) = rows_of_params k (at + length e.id + 1) e.params ++ param_rows (k + 1) (at + length (element_then e [])) es

-- ---- the contract: a reading of a line into tables that held e₀ and p₀ and hold e₁ and p₁

pub data StrictReads (line : List ℕ) (e₀ p₀ : List (List ℕ)) (r : Result StrictReading Refusal) (e₁ p₁ : List (List ℕ)) : Type 0 where
  too_long : line_limit < length line → r ≡ Err LineTooLong → e₁ ≡ e₀ → p₁ ≡ p₀ → StrictReads line e₀ p₀ r e₁ p₁
  underivable : length line ≤ line_limit → ((d : Division) → Derives line d → ⊥)
      → r ≡ Err NoReading → e₁ ≡ e₀ → p₁ ≡ p₀ → StrictReads line e₀ p₀ r e₁ p₁
  elements_over : (d : Division) → length line ≤ line_limit → Derives line d → length e₀ < length d.elements
      → r ≡ Err TooManyElements → e₁ ≡ e₀ → p₁ ≡ p₀ → StrictReads line e₀ p₀ r e₁ p₁
  params_over : (d : Division) → length line ≤ line_limit → Derives line d → length d.elements ≤ length e₀ → length p₀ < param_count d.elements
      → r ≡ Err TooManyParams → e₁ ≡ e₀ → p₁ ≡ p₀ → StrictReads line e₀ p₀ r e₁ p₁
  accepted : (d : Division) → length line ≤ line_limit → Derives line d → length d.elements ≤ length e₀ → param_count d.elements ≤ length p₀
      → r ≡ Ok (record { reading = record_of d; elements = length d.elements; params = param_count d.elements })
      → e₁ ≡ filled (element_rows (data_at d) d.elements) e₀
      → p₁ ≡ filled (param_rows 0 (data_at d) d.elements) p₀
      → StrictReads line e₀ p₀ r e₁ p₁
