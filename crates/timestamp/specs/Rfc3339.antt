-- Form (c): one byte `-`, or the text up to the next space, which must be there: `YYYY-MM-DD`, `T` or `t`, `hh:mm:ss`, optionally `.` and
-- 1 to 9 digits, then `Z`, `z`, or sign `hh:mm` with hh 00-23, mm 00-59. (The form holds no space, so it ends where the space is.)
use Rattle.std.specs.Prelude.{ℕ, ◌+◌, ◌-◌, ◌*◌, List, ◌&&◌, ◌||◌, leb, drop, ℤ, pos, neg_ℤ, if◌then◌else◌, Option, Some, None}
use Rattle.base.specs.Choose.{is_at}
use Rattle.digits.specs.Digits.{fixed_at, fraction_at}
use Rattle.calendar.specs.Calendar.{valid}
use Rattle.calendar.specs.Instant.{seconds_of}
use Rattle.calendar.specs.declared.DateTime.{DateTime}
use Rattle.parsers.specs.Steps.{moved, byte_from, on_read, on_some}
use Rattle.timestamp.specs.Clock.{on_clock}
use Rattle.timestamp.specs.declared.Clock.{Clock}
use Rattle.timestamp.specs.declared.Date.{Date}
use Rattle.record.specs.declared.Timestamp.{Timestamp}

-- exactly `k` digits
unfoldable pub fixed_from : ℕ → List ℕ → ℕ → Option (ℕ × ℕ)
fixed_from k s at = moved at (fixed_at k (drop at s))

-- one of two bytes
unfoldable pub either_from : List ℕ → ℕ → ℕ → ℕ → Option ℕ
either_from s at a b = if is_at s at a || is_at s at b then Some (at + 1) else None

-- YYYY-MM-DD
unfoldable pub date_from : List ℕ → ℕ → Option (Date × ℕ)
date_from s at =
    on_read (fixed_from 4 s at) None λ year a.
    on_some (byte_from s a 45) None λ b.
    on_read (fixed_from 2 s b) None λ month c.
    on_some (byte_from s c 45) None λ d.
    on_read (fixed_from 2 s d) None λ day e.
    Some (record { year = year; month = month; day = day }, e)

-- hh:mm:ss
unfoldable pub time_from : List ℕ → ℕ → Option (Clock × ℕ)
time_from s at =
    on_read (fixed_from 2 s at) None λ hour a.
    on_some (byte_from s a 58) None λ b.
    on_read (fixed_from 2 s b) None λ minute c.
    on_some (byte_from s c 58) None λ d.
    on_read (fixed_from 2 s d) None λ second e.
    Some (record { hour = hour; minute = minute; second = second }, e)

-- optionally `.` and 1 to 9 digits, as nanoseconds
unfoldable pub nanos_from : List ℕ → ℕ → Option (ℕ × ℕ)
nanos_from s at = if is_at s at 46 then moved (at + 1) (fraction_at 9 (drop (at + 1) s)) else Some (0, at)

-- hh:mm with hh 00-23, mm 00-59, in minutes
unfoldable pub minutes_from : List ℕ → ℕ → Option (ℕ × ℕ)
minutes_from s at =
    on_read (fixed_from 2 s at) None λ hour a.
    on_some (byte_from s a 58) None λ b.
    on_read (fixed_from 2 s b) None λ minute c.
    if leb hour 23 && leb minute 59 then Some (hour * 60 + minute, c) else None

abbrev pub east_of : Option (ℕ × ℕ) → Option (ℤ × ℕ)
east_of None = None
east_of (Some x) = Some (pos x.0, x.1)

abbrev pub west_of : Option (ℕ × ℕ) → Option (ℤ × ℕ)
west_of None = None
west_of (Some x) = Some (neg_ℤ (pos x.0), x.1)

-- `Z`, `z`, or a sign and hh:mm
unfoldable pub zone_from : List ℕ → ℕ → Option (ℤ × ℕ)
zone_from s at =
    if is_at s at 90 || is_at s at 122 then Some (pos 0, at + 1)
    else if is_at s at 43 then east_of (minutes_from s (at + 1))
    else if is_at s at 45 then west_of (minutes_from s (at + 1))
    else None

abbrev pub on_date : {R : Type 0} → Option (Date × ℕ) → R → (ℕ → ℕ → ℕ → ℕ → R) → R
on_date None r k = r
on_date (Some x) r k = k x.0.year x.0.month x.0.day x.1

-- a date and a clock that are valid, at an offset
abbrev pub stamp_if : DateTime → ℕ → ℕ → ℤ → ℕ → Option (Option Timestamp × ℕ)
stamp_if t nanos digits offset next =
    if valid t then Some (Some (record { seconds = seconds_of t offset; nanos = nanos; digits = digits; offset = offset }), next) else None

-- after the clock: fraction, zone, and the space, which is not consumed. The digits are what was taken after the point, none where nothing was taken.
unfoldable pub end_from : List ℕ → DateTime → ℕ → Option (Option Timestamp × ℕ)
end_from s t at =
    on_read (nanos_from s at) None λ nanos a.
    on_read (zone_from s a) None λ offset b.
    if is_at s b 32 then stamp_if t nanos (a - at - 1) offset b else None

unfoldable pub full_from : List ℕ → ℕ → Option (Option Timestamp × ℕ)
full_from s at =
    on_date (date_from s at) None λ year month day a.
    on_some (either_from s a 84 116) None λ b.
    on_clock (time_from s b) None λ hour minute second c.
    end_from s (record { year = year; month = month; day = day; hour = hour; minute = minute; second = second }) c

unfoldable pub rfc3339_from : List ℕ → ℕ → Option (Option Timestamp × ℕ)
rfc3339_from s at = if is_at s at 45 then Some (None, at + 1) else full_from s at
