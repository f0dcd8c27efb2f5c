-- Refusal 7: whether a record, counts and tables suit a line.
use Rattle.std.specs.Prelude.{ℕ, ◌+◌, ◌-◌, ◌%◌, ◌^◌, List, [], ◌∷◌, Bool, true, ◌&&◌, leb, ltb, eqb, length, get_or, take, Option, Some, None}
use Rattle.calendar.specs.Calendar.{valid_offset}
use Rattle.calendar.specs.Instant.{shown, is_shown}
use Rattle.record.specs.declared.Record.{Record}
use Rattle.record.specs.declared.Timestamp.{Timestamp}

-- a place, of an absent text too, does not end past the line
abbrev pub place_suits : List ℕ → ℕ → ℕ → Bool
place_suits line start len = leb (start + len) (length line)

-- facility not over 23, severity not over 7
abbrev pub level_suits : ℕ → Option ℕ → Bool
level_suits most None = true
level_suits most (Some n) = leb n most

-- nanoseconds not over 999,999,999, which so many digits, at most 9, can show
abbrev pub fraction_suits : ℕ → ℕ → Bool
fraction_suits nanos digits = leb nanos 999999999 && leb digits 9 && eqb (nanos % 10 ^ (9 - digits)) 0

-- the fraction, offset in range, the local year one of 0 to 9999
abbrev pub stamp_suits : Option Timestamp → Bool
stamp_suits None = true
stamp_suits (Some t) = fraction_suits t.nanos t.digits && valid_offset t.offset && is_shown (shown t.seconds t.offset)

unfoldable pub record_suits : List ℕ → Record → Bool
record_suits line r =
    level_suits 23 r.facility
    && level_suits 7 r.severity
    && stamp_suits r.timestamp
    && place_suits line r.host.start r.host.len
    && place_suits line r.app.start r.app.len
    && place_suits line r.procid.start r.procid.len
    && place_suits line r.msgid.start r.msgid.len
    && place_suits line r.message.start r.message.len

-- the ids' places
unfoldable pub elements_suit : List ℕ → List (List ℕ) → Bool
elements_suit line [] = true
elements_suit line (row ∷ rows) = place_suits line (get_or row 0 0) (get_or row 1 0) && elements_suit line rows

-- an element number that is not below `low` and below the count `e`; the name's and the value's places
abbrev pub param_suits : List ℕ → ℕ → ℕ → List ℕ → Bool
param_suits line e low row =
    leb low (get_or row 0 0)
    && ltb (get_or row 0 0) e
    && place_suits line (get_or row 1 0) (get_or row 2 0)
    && place_suits line (get_or row 3 0) (get_or row 4 0)

-- no number is below the one before it
unfoldable pub params_suit : List ℕ → ℕ → ℕ → List (List ℕ) → Bool
params_suit line e low [] = true
params_suit line e low (row ∷ rows) = param_suits line e low row && params_suit line e (get_or row 0 0) rows

-- counts that do not exceed their tables, and the entries counted
unfoldable pub tables_suit : List ℕ → ℕ → ℕ → List (List ℕ) → List (List ℕ) → Bool
tables_suit line e p elements params =
    leb e (length elements)
    && leb p (length params)
    && elements_suit line (take e elements)
    && params_suit line e 0 (take p params)

unfoldable pub suits : List ℕ → Record → ℕ → ℕ → List (List ℕ) → List (List ℕ) → Bool
suits line r e p elements params = record_suits line r && tables_suit line e p elements params
