-- RULES Timestamp as worked examples, computed from the definitions.
use Rattle.std.specs.Prelude.{Option, Some, None}
use Prim.Native.Nat.{ℕ}
use mathlib.Core.Path.{◌≡◌, refl}
use mathlib.Core.List.{[], ◌∷◌, map}
use lib.IntN.{ℤ, pos, negsuc}
use Rattle.base.specs.Bytes.{bytes}
use Rattle.base.specs.Runs.{run}
use Rattle.digits.specs.Digits.{decimal_from, number_at, fixed_at, fraction_at}
use Rattle.calendar.specs.Calendar.{leap, month_days, valid_date, valid_time, valid, year_days, days_before_year, days_of_months, day_number}
use Rattle.calendar.specs.Instant.{local_seconds, seconds_of, span_from, year_of, month_of, clock_of, shown}
use Rattle.parsers.specs.Steps.{some_blanks_from, byte_from, number_from}
use Rattle.timestamp.specs.Month.{lower, named_from, month_of as numbered, month_from}
use Rattle.timestamp.specs.Clock.{clock_from}
use Rattle.timestamp.specs.Rfc3339.{fixed_from, either_from, date_from, time_from, nanos_from, minutes_from, zone_from, end_from, full_from, rfc3339_from}
use Rattle.timestamp.specs.Timestamp.{day_from, without_year, with_year, rfc3164_from}
use Rattle.record.specs.declared.Timestamp.{Timestamp}

abbrev at : ℤ → ℕ → ℕ → ℤ → ℕ → Option (Option Timestamp × ℕ)
at seconds nanos digits offset next = Some (Some (record { seconds = seconds; nanos = nanos; digits = digits; offset = offset }), next)

-- `A` to `Z` and nothing else
lowers : map lower (64 ∷ 65 ∷ 90 ∷ 91 ∷ 97 ∷ 122 ∷ []) ≡ 64 ∷ 97 ∷ 122 ∷ 91 ∷ 97 ∷ 122 ∷ []
lowers = refl

-- month names in any case, of three letters
names : map numbered (bytes "jan" ∷ bytes "Feb" ∷ bytes "MAR" ∷ bytes "aPr" ∷ bytes "maY" ∷ bytes "JUn" ∷ bytes "jUL" ∷ bytes "Aug" ∷ bytes "sep" ∷ bytes "OCT" ∷ bytes "nov" ∷ bytes "DeC" ∷ [])
    ≡ 1 ∷ 2 ∷ 3 ∷ 4 ∷ 5 ∷ 6 ∷ 7 ∷ 8 ∷ 9 ∷ 10 ∷ 11 ∷ 12 ∷ []
unfolding numbered named_from
names = refl

no_names_lem : map numbered (bytes "" ∷ bytes "ja" ∷ bytes "janu" ∷ bytes "jax" ∷ bytes "*an" ∷ bytes "123" ∷ [])
    ≡ 0 ∷ 0 ∷ 0 ∷ 0 ∷ 0 ∷ 0 ∷ []
unfolding numbered named_from
no_names_lem = refl

-- (a): the given year and offset, local time; `:` behind it is passed; blanks are spaces and tabs
local : map (λ t. without_year 2023 (pos 60) t 0) (bytes "Feb  5 10:01:02" ∷ bytes "fEB\t5 \t10:1:2 x" ∷ bytes "FEB 05 010:01:02: x" ∷ [])
    ≡ at (pos 1675587662) 0 0 (pos 60) 15 ∷ at (pos 1675587662) 0 0 (pos 60) 13 ∷ at (pos 1675587662) 0 0 (pos 60) 17 ∷ []
unfolding without_year day_from month_from numbered named_from clock_from some_blanks_from byte_from number_from number_at decimal_from run valid valid_date valid_time leap month_days seconds_of local_seconds day_number days_before_year year_days days_of_months
local = refl

-- no blanks, no reading; second 60 is none, nor the day 30
not_local : map (λ t. without_year 2023 (pos 60) t 0) (bytes "Feb5 10:01:02" ∷ bytes "Feb 510:01:02" ∷ bytes "Feb 5 10:01" ∷ bytes "Feb 5 10:01:60" ∷ bytes "Feb 5 24:01:02" ∷ bytes "Feb 30 10:01:02" ∷ bytes "Feb 0 10:01:02" ∷ bytes " Feb 5 10:01:02" ∷ [])
    ≡ None ∷ None ∷ None ∷ None ∷ None ∷ None ∷ None ∷ None ∷ []
unfolding without_year day_from month_from numbered named_from clock_from some_blanks_from byte_from number_from number_at decimal_from run valid valid_date valid_time leap month_days seconds_of local_seconds day_number days_before_year year_days days_of_months
not_local = refl

-- (b): the clock is UTC's, and is shown at the offset
utc : (with_year (pos 60) (bytes "Feb 5 2023 10:01:02: x") 0 ≡ at (pos 1675591262) 0 0 (pos 60) 20)
    × (shown (pos 1675591262) (pos 60) ≡ Some (record { year = 2023; month = 2; day = 5; hour = 11; minute = 1; second = 2 }))
unfolding with_year day_from month_from numbered named_from clock_from some_blanks_from byte_from number_from number_at decimal_from run valid valid_date valid_time leap month_days seconds_of local_seconds day_number days_before_year year_days days_of_months shown clock_of year_of month_of span_from
utc = (refl, refl)

-- a year above 9999 fails, and so does a shown year outside 0 to 9999
years : (map (λ t. with_year (negsuc 59) t 0) (bytes "Jan 1 10000 00:30:00" ∷ bytes "Jan 1 0 00:30:00" ∷ bytes "Jan 1 0 01:00:00" ∷ [])
    ≡ None ∷ None ∷ at (negsuc 62167215599) 0 0 (negsuc 59) 16 ∷ [])
    × (map (λ t. with_year (pos 60) t 0) (bytes "Dec 31 9999 23:30:00" ∷ bytes "Dec 31 9999 22:59:59" ∷ [])
    ≡ None ∷ at (pos 253402297199) 0 0 (pos 60) 20 ∷ [])
unfolding with_year day_from month_from numbered named_from clock_from some_blanks_from byte_from number_from number_at decimal_from run valid valid_date valid_time leap month_days seconds_of local_seconds day_number days_before_year year_days days_of_months shown
years = (refl, refl)

-- (c): one byte `-`; or the text up to the next space, with `T` or `t`, `Z` or `z`, or a sign and hh:mm
full : map (λ t. rfc3339_from t 0) (bytes "-x" ∷ bytes "2023-02-05T10:01:02Z x" ∷ bytes "2023-02-05t10:01:02z x" ∷ bytes "2023-02-05T10:01:02.5+01:00 x" ∷ bytes "2023-02-05T10:01:02.123456789-00:30 x" ∷ bytes "2023-02-05T10:01:02+23:59 x" ∷ [])
    ≡ Some (None, 1)
    ∷ at (pos 1675591262) 0 0 (pos 0) 20
    ∷ at (pos 1675591262) 0 0 (pos 0) 20
    ∷ at (pos 1675587662) 500000000 1 (pos 60) 27
    ∷ at (pos 1675593062) 123456789 9 (negsuc 29) 35
    ∷ at (pos 1675504922) 0 0 (pos 1439) 25
    ∷ []
unfolding rfc3339_from full_from date_from time_from end_from nanos_from zone_from minutes_from fixed_from either_from fixed_at fraction_at byte_from decimal_from run valid valid_date valid_time leap month_days seconds_of local_seconds day_number days_before_year year_days days_of_months
full = refl

-- the digits of the fraction are counted, its zeros too
counted : map (λ t. rfc3339_from t 0) (bytes "2023-02-05T10:01:02.500000Z x" ∷ bytes "2023-02-05T10:01:02.5Z x" ∷ bytes "2023-02-05T10:01:02.000Z x" ∷ bytes "2023-02-05T10:01:02.000000001Z x" ∷ [])
    ≡ at (pos 1675591262) 500000000 6 (pos 0) 27
    ∷ at (pos 1675591262) 500000000 1 (pos 0) 22
    ∷ at (pos 1675591262) 0 3 (pos 0) 24
    ∷ at (pos 1675591262) 1 9 (pos 0) 30
    ∷ []
unfolding rfc3339_from full_from date_from time_from end_from nanos_from zone_from minutes_from fixed_from either_from fixed_at fraction_at byte_from decimal_from run valid valid_date valid_time leap month_days seconds_of local_seconds day_number days_before_year year_days days_of_months
counted = refl

-- ten digits, no digit, second 60, +24:00, +23:60, no zone; a tab or the end behind it, one digit too few
not_full : map (λ t. rfc3339_from t 0) (bytes "2023-02-05T10:01:02.1234567890Z x" ∷ bytes "2023-02-05T10:01:02.Z x" ∷ bytes "2023-02-05T10:01:60Z x" ∷ bytes "2023-02-05T10:01:02+24:00 x" ∷ bytes "2023-02-05T10:01:02+23:60 x" ∷ bytes "2023-02-05T10:01:02 x" ∷ bytes "2023-02-05T10:01:02Z\tx" ∷ bytes "2023-02-05T10:01:02Z" ∷ bytes "2023-2-05T10:01:02Z x" ∷ [])
    ≡ None ∷ None ∷ None ∷ None ∷ None ∷ None ∷ None ∷ None ∷ None ∷ []
unfolding rfc3339_from full_from date_from time_from end_from nanos_from zone_from minutes_from fixed_from either_from fixed_at fraction_at byte_from decimal_from run valid valid_date valid_time leap month_days seconds_of local_seconds day_number days_before_year year_days days_of_months
not_full = refl

-- 29 February is a day of 2024 and none of 2023, in each form
leaps : (map (λ y. rfc3164_from y (pos 0) (bytes "Feb 29 10:01:02") 0) (2023 ∷ 2024 ∷ []) ≡ None ∷ at (pos 1709200862) 0 0 (pos 0) 15 ∷ [])
    × (map (λ t. rfc3164_from 2022 (pos 0) t 0) (bytes "Feb 29 2023 10:01:02" ∷ bytes "Feb 29 2024 10:01:02" ∷ bytes "2023-02-29T10:01:02Z x" ∷ bytes "2024-02-29T10:01:02Z x" ∷ [])
    ≡ None ∷ at (pos 1709200862) 0 0 (pos 0) 20 ∷ None ∷ at (pos 1709200862) 0 0 (pos 0) 20 ∷ [])
unfolding rfc3164_from with_year without_year day_from month_from numbered named_from clock_from some_blanks_from byte_from number_from number_at decimal_from run rfc3339_from full_from date_from time_from end_from nanos_from zone_from minutes_from fixed_from either_from fixed_at fraction_at valid valid_date valid_time leap month_days seconds_of local_seconds day_number days_before_year year_days days_of_months shown
leaps = (refl, refl)

-- the three in turn, from a position of the line
turns : map (λ t. rfc3164_from 2023 (pos 60) t 4) (bytes "<13>Feb  5 10:01:02 gate7" ∷ bytes "<13>Feb 5 2023 10:01:02 gate7" ∷ bytes "<13>2023-02-05T10:01:02+01:00 gate7" ∷ bytes "<13>- gate7" ∷ bytes "<13>gate7" ∷ [])
    ≡ at (pos 1675587662) 0 0 (pos 60) 19 ∷ at (pos 1675591262) 0 0 (pos 60) 23 ∷ at (pos 1675587662) 0 0 (pos 60) 29 ∷ Some (None, 5) ∷ None ∷ []
unfolding rfc3164_from with_year without_year day_from month_from numbered named_from clock_from some_blanks_from byte_from number_from number_at decimal_from run rfc3339_from full_from date_from time_from end_from nanos_from zone_from minutes_from fixed_from either_from fixed_at fraction_at valid valid_date valid_time leap month_days seconds_of local_seconds day_number days_before_year year_days days_of_months shown
turns = refl
