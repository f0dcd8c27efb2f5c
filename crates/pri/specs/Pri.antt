-- pri.rs: `<`, digits, `>`, value 0 to 255, leading zeros allowed. Anything else, `<256>` too, consumes nothing and leaves both absent.
use Rattle.std.specs.Prelude.{ℕ, ◌+◌, ◌/◌, ◌%◌, List, leb, drop, if◌then◌else◌, Option, Some, None}
use Rattle.base.specs.Choose.{is_at}
use Rattle.digits.specs.Digits.{number_at}
use Rattle.pri.specs.declared.Pri.{Pri}

-- facility is value / 8, absent above 23
abbrev pub facility_of : ℕ → Option ℕ
facility_of v = if leb (v / 8) 23 then Some (v / 8) else None

-- severity is the remainder
abbrev pub severity_of : ℕ → Option ℕ
severity_of v = Some (v % 8)

abbrev pub no_pri : Pri
no_pri = record { next = 0; facility = None; severity = None }

-- after the `<`: a number and the `>`
abbrev pub pri_after : List ℕ → Option (ℕ × ℕ) → Pri
pri_after s None = no_pri
pri_after s (Some x) =
    if is_at s (x.1 + 1) 62 then record { next = x.1 + 2; facility = facility_of x.0; severity = severity_of x.0 } else no_pri

unfoldable pub pri_at : List ℕ → Pri
pri_at s = if is_at s 0 60 then pri_after s (number_at 255 (drop 1 s)) else no_pri
