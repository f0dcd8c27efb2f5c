-- Worked examples, computed from the definitions.
use Rattle.std.specs.Prelude.{Some, None}
use Prim.Native.Nat.{ℕ, suc}
use mathlib.Core.Path.{◌≡◌, refl}
use mathlib.Core.List.{List, [], ◌∷◌, map}
use mathlib.Core.Bool.{Bool, true, false}
use lib.IntN.{ℤ, pos, neg_ℤ}
use lib.ListN.{replicate}
use Rattle.calendar.specs.Calendar.{leap, month_days, valid_date, valid_time, valid_offset, valid, year_days, days_before_year, days_of_months, day_number}
use Rattle.calendar.specs.Instant.{local_seconds, seconds_of, span_from, year_of, month_of, clock_of, shown}
use Rattle.calendar.specs.Order.{before, earlier}
use Rattle.calendar.specs.declared.DateTime.{DateTime}

abbrev minus : ℕ → ℤ
minus n = neg_ℤ (pos n)

abbrev at : ℕ → ℕ → ℕ → ℕ → ℕ → ℕ → DateTime
at y m d h i s = record { year = y; month = m; day = d; hour = h; minute = i; second = s }

leap_years : map leap (1900 ∷ 2000 ∷ 2023 ∷ 2024 ∷ []) ≡ false ∷ true ∷ false ∷ true ∷ []
unfolding leap
leap_years = refl

-- a date and a clock, and whether they are valid
abbrev dates : List (DateTime × Bool)
dates =
    (at 2024 2 29 0 0 0, true)
    ∷ (at 2023 2 29 0 0 0, false)
    ∷ (at 2023 4 30 23 59 59, true)
    ∷ (at 2023 4 31 0 0 0, false)
    ∷ (at 2023 0 1 0 0 0, false)
    ∷ (at 2023 13 1 0 0 0, false)
    ∷ (at 2023 1 0 0 0 0, false)
    ∷ (at 2023 1 32 0 0 0, false)
    ∷ (at 2023 1 1 24 0 0, false)
    ∷ (at 2023 1 1 0 60 0, false)
    ∷ (at 2023 1 1 0 0 60, false)
    ∷ (at 9999 12 31 23 59 59, true)
    ∷ (at 10000 1 1 0 0 0, false)
    ∷ []

dates_told : map (λ e. valid e.0) dates ≡ map (λ e. e.1) dates
unfolding valid valid_date valid_time month_days leap
dates_told = refl

-- a date and a clock, an offset, and the instant
record Entry : Type 0 where
  local : DateTime
  offset : ℤ
  seconds : ℤ

abbrev entry : DateTime → ℤ → ℤ → Entry
entry t o z = record { local = t; offset = o; seconds = z }

abbrev instants : List Entry
instants =
    entry (at 2023 2 5 10 1 2) (pos 60) (pos 1675587662)
    ∷ entry (at 2023 2 5 9 1 2) (pos 0) (pos 1675587662)
    ∷ entry (at 2023 2 4 9 2 2) (minus 1439) (pos 1675587662)
    ∷ entry (at 2023 2 5 10 1 2) (pos 0) (pos 1675591262)
    ∷ entry (at 2023 2 5 11 1 2) (pos 60) (pos 1675591262)
    ∷ entry (at 2023 2 5 23 0 0) (pos 0) (pos 1675638000)
    ∷ entry (at 0 1 1 0 0 0) (pos 0) (minus 62167219200)
    ∷ entry (at 0 12 31 23 59 59) (pos 0) (minus 62135596801)
    ∷ entry (at 1969 1 1 0 0 0) (pos 0) (minus 31536000)
    ∷ entry (at 1969 12 31 23 59 59) (pos 0) (minus 1)
    ∷ entry (at 1970 1 1 0 0 0) (pos 0) (pos 0)
    ∷ entry (at 1970 12 31 23 59 59) (pos 0) (pos 31535999)
    ∷ entry (at 9999 1 1 0 0 0) (pos 0) (pos 253370764800)
    ∷ entry (at 9999 12 31 23 59 59) (pos 0) (pos 253402300799)
    ∷ entry (at 0 1 1 0 0 59) (pos 1) (minus 62167219201)
    ∷ entry (at 9999 12 31 23 59 0) (minus 1) (pos 253402300800)
    ∷ []

there : map (λ e. seconds_of e.local e.offset) instants ≡ map (λ e. e.seconds) instants
unfolding seconds_of local_seconds day_number days_before_year days_of_months month_days year_days leap
there = refl

back : map (λ e. shown e.seconds e.offset) instants ≡ map (λ e. Some e.local) instants
unfolding shown clock_of year_of month_of span_from days_before_year days_of_months month_days year_days leap
back = refl

-- one second before the year 0 and one after the year 9999, and an offset that moves across
outside : map (λ (e : ℤ × ℤ). shown e.0 e.1) ((minus 62167219201, pos 0) ∷ (pos 253402300800, pos 0) ∷ (minus 62167219200, minus 1) ∷ (pos 253402300799, pos 1) ∷ [])
    ≡ None ∷ None ∷ None ∷ None ∷ []
unfolding shown
outside = refl

-- a later number never outweighs an earlier one
order : map (λ (e : DateTime × DateTime). earlier e.0 e.1)
    ((at 1969 12 31 23 59 59, at 1970 1 1 0 0 0) ∷ (at 1970 1 1 0 0 0, at 1969 12 31 23 59 59) ∷ (at 1970 1 1 0 0 0, at 1970 1 1 0 0 0) ∷ (at 2023 2 5 10 1 2, at 2023 2 5 10 2 1) ∷ [])
    ≡ true ∷ false ∷ false ∷ true ∷ []
unfolding before
order = refl

-- of each month: day 0, the first, the last, and the day after it
abbrev ends : ℕ → ℕ → ℕ → List Bool
ends y m last = map (valid_date y m) (0 ∷ 1 ∷ last ∷ suc last ∷ [])

abbrev inside : List Bool
inside = false ∷ true ∷ true ∷ false ∷ []

months_end : (ends 2023 1 31 ∷ ends 2023 2 28 ∷ ends 2023 3 31 ∷ ends 2023 4 30 ∷ ends 2023 5 31 ∷ ends 2023 6 30
    ∷ ends 2023 7 31 ∷ ends 2023 8 31 ∷ ends 2023 9 30 ∷ ends 2023 10 31 ∷ ends 2023 11 30 ∷ ends 2023 12 31 ∷ []
    ≡ replicate 12 inside)
    × (ends 2024 1 31 ∷ ends 2024 2 29 ∷ ends 2024 3 31 ∷ ends 2024 4 30 ∷ ends 2024 5 31 ∷ ends 2024 6 30
    ∷ ends 2024 7 31 ∷ ends 2024 8 31 ∷ ends 2024 9 30 ∷ ends 2024 10 31 ∷ ends 2024 11 30 ∷ ends 2024 12 31 ∷ []
    ≡ replicate 12 inside)
unfolding valid_date month_days leap
months_end = (refl, refl)

-- an offset is within 1,439 minutes, to the west and to the east
offsets : map valid_offset (minus 1440 ∷ minus 1439 ∷ pos 0 ∷ pos 1439 ∷ pos 1440 ∷ []) ≡ false ∷ true ∷ true ∷ true ∷ false ∷ []
offsets = refl
