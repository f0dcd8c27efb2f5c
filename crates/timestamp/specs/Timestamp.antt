-- timestamp.rs, RFC 3164: forms (a), (b) and (c) in turn.
use Rattle.std.specs.Prelude.{ℕ, List, ◌&&◌, ℤ, pos, if◌then◌else◌, Option, Some, None}
use Rattle.calendar.specs.Calendar.{valid}
use Rattle.calendar.specs.Instant.{seconds_of, shown, is_shown}
use Rattle.calendar.specs.declared.DateTime.{DateTime}
use Rattle.parsers.specs.Steps.{some_blanks_from, colon_from, number_from, on_read, on_some}
use Rattle.timestamp.specs.Month.{month_from}
use Rattle.timestamp.specs.Clock.{clock_from, on_clock}
use Rattle.timestamp.specs.Rfc3339.{stamp_if, rfc3339_from}
use Rattle.timestamp.specs.declared.Day.{Day}
use Rattle.record.specs.declared.Timestamp.{Timestamp}

-- month name, blanks, day, blanks
unfoldable pub day_from : List ℕ → ℕ → Option (Day × ℕ)
day_from s at =
    on_read (month_from s at) None λ month a.
    on_some (some_blanks_from s a) None λ b.
    on_read (number_from s b) None λ day c.
    on_some (some_blanks_from s c) None λ d.
    Some (record { month = month; day = day }, d)

abbrev pub on_day : {R : Type 0} → Option (Day × ℕ) → R → (ℕ → ℕ → ℕ → R) → R
on_day None r k = r
on_day (Some x) r k = k x.0.month x.0.day x.1

-- (a) at the given year and offset, local time
unfoldable pub without_year : ℕ → ℤ → List ℕ → ℕ → Option (Option Timestamp × ℕ)
without_year year offset s at =
    on_day (day_from s at) None λ month day a.
    on_clock (clock_from s a) None λ hour minute second b.
    stamp_if (record { year = year; month = month; day = day; hour = hour; minute = minute; second = second }) 0 0 offset (colon_from s b)

-- the clock taken as UTC, and then shown at the offset, where the year shown is one of 0 to 9999
abbrev pub utc_if : DateTime → ℤ → ℕ → Option (Option Timestamp × ℕ)
utc_if t offset next =
    let seconds = seconds_of t (pos 0) in
    if valid t && is_shown (shown seconds offset) then Some (Some (record { seconds = seconds; nanos = 0; digits = 0; offset = offset }), next)
    else None

-- (b) the same with blanks and a year after the day
unfoldable pub with_year : ℤ → List ℕ → ℕ → Option (Option Timestamp × ℕ)
with_year offset s at =
    on_day (day_from s at) None λ month day a.
    on_read (number_from s a) None λ year b.
    on_some (some_blanks_from s b) None λ c.
    on_clock (clock_from s c) None λ hour minute second d.
    utc_if (record { year = year; month = month; day = day; hour = hour; minute = minute; second = second }) offset (colon_from s d)

-- the first that is a reading
abbrev pub or_else : Option (Option Timestamp × ℕ) → Option (Option Timestamp × ℕ) → Option (Option Timestamp × ℕ)
or_else None y = y
or_else (Some x) y = Some (x.0, x.1)

unfoldable pub rfc3164_from : ℕ → ℤ → List ℕ → ℕ → Option (Option Timestamp × ℕ)
rfc3164_from year offset s at =
    or_else (without_year year offset s at) (or_else (with_year offset s at) (rfc3339_from s at))
