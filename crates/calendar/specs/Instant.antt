-- Seconds since 1970-01-01T00:00:00Z, and the local date and clock that they show.
use Rattle.std.specs.Prelude.{ℕ, zero, suc, ◌+◌, ◌-◌, ◌*◌, ◌/◌, ◌%◌, Bool, true, false, ltb, ℤ, pos, negsuc, ◌+ℤ◌, ◌-ℤ◌, ◌*ℤ◌, if◌then◌else◌, Option, Some, None}
use Rattle.calendar.specs.Calendar.{year_days, month_days, days_before_year, days_of_months, day_number}
use Rattle.calendar.specs.declared.DateTime.{DateTime}

-- from 0000-01-01T00:00:00 to 1970-01-01T00:00:00, in seconds
abbrev pub epoch : ℕ
epoch = 62167219200

-- seconds since 0000-01-01T00:00:00 on the same clock
unfoldable pub local_seconds : DateTime → ℕ
local_seconds t = day_number t.year t.month t.day * 86400 + (t.hour * 3600 + t.minute * 60 + t.second)

-- the instant, where the clock is `offset` minutes east of UTC
unfoldable pub seconds_of : DateTime → ℤ → ℤ
seconds_of t offset = pos (local_seconds t) -ℤ pos epoch -ℤ offset *ℤ pos 60

-- In which of the spans of `len 0`, `len 1`, .. days, one after another, day `n` falls, where `k` of them are passed and `f` may come
unfoldable pub span_from : (ℕ → ℕ) → ℕ → ℕ → ℕ → ℕ
span_from len zero k n = k
span_from len (suc f) k n = if ltb n (len k) then k else span_from len f (suc k) (n - len k)

-- the year of day `n` since 0000-01-01
unfoldable pub year_of : ℕ → ℕ
year_of n = span_from year_days 10000 0 n

-- the month, from 0, of day `n` of year `y`
unfoldable pub month_of : ℕ → ℕ → ℕ
month_of y n = span_from (λ k. month_days y (suc k)) 12 0 n

-- the date and the clock that `n` seconds since 0000-01-01T00:00:00 show
unfoldable pub clock_of : ℕ → DateTime
clock_of n =
    let day = n / 86400 in
    let time = n % 86400 in
    let y = year_of day in
    let left = day - days_before_year y in
    let m = month_of y left in
    record {
      year = y;
      month = m + 1;
      day = left - days_of_months y m + 1;
      hour = time / 3600;
      minute = time / 60 % 60;
      second = time % 60;
    }

-- the seconds of the years 0 to 9999
abbrev pub all_seconds : ℕ
all_seconds = 315569520000

abbrev pub shown_at : ℤ → Option DateTime
shown_at (pos n) = if ltb n all_seconds then Some (clock_of n) else None
shown_at (negsuc n) = None

-- what an instant shows `offset` minutes east of UTC, where the year there is one of 0 to 9999
unfoldable pub shown : ℤ → ℤ → Option DateTime
shown seconds offset = shown_at (seconds +ℤ offset *ℤ pos 60 +ℤ pos epoch)

-- whether the local year is one of 0 to 9999
abbrev pub is_shown : Option DateTime → Bool
is_shown None = false
is_shown (Some t) = true
