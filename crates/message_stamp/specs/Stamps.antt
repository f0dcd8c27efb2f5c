-- message.rs, the timestamp: fraction of as many digits as it was read with, offset always as sign `hh:mm`, `+` for 0.
use Rattle.std.specs.Prelude.{ℕ, ◌-◌, ◌/◌, ◌%◌, ◌^◌, List, [], ◌∷◌, ◌++◌, eqb, ℤ, pos, negsuc, nat_abs, if◌then◌else◌, Option, Some, None}
use Rattle.calendar.specs.Instant.{shown}
use Rattle.calendar.specs.declared.DateTime.{DateTime}
use Rattle.record.specs.declared.Timestamp.{Timestamp}
use Rattle.output.specs.Numerals.{fixed}

-- YYYY-MM-DD
unfoldable pub date_text : DateTime → List ℕ
date_text t = fixed 4 t.year ++ (45 ∷ fixed 2 t.month) ++ (45 ∷ fixed 2 t.day)

-- Thh:mm:ss
unfoldable pub time_text : DateTime → List ℕ
time_text t = (84 ∷ fixed 2 t.hour) ++ (58 ∷ fixed 2 t.minute) ++ (58 ∷ fixed 2 t.second)

unfoldable pub clock_text : DateTime → List ℕ
clock_text t = date_text t ++ time_text t

-- so many digits of the nanoseconds; no digit, no point
unfoldable pub fraction_text : ℕ → ℕ → List ℕ
fraction_text digits nanos = if eqb digits 0 then [] else 46 ∷ fixed digits (nanos / 10 ^ (9 - digits))

abbrev pub sign_of : ℤ → ℕ
sign_of (pos n) = 43
sign_of (negsuc n) = 45

unfoldable pub offset_text : ℤ → List ℕ
offset_text offset = sign_of offset ∷ fixed 2 (nat_abs offset / 60) ++ (58 ∷ fixed 2 (nat_abs offset % 60))

abbrev pub shown_text : Timestamp → Option DateTime → List ℕ
shown_text t None = []
shown_text t (Some clock) = clock_text clock ++ fraction_text t.digits t.nanos ++ offset_text t.offset

-- the timestamp, or `-`
abbrev pub stamp_text : Option Timestamp → List ℕ
stamp_text None = 45 ∷ []
stamp_text (Some t) = shown_text t (shown t.seconds t.offset)
