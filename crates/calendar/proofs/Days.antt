-- The days of months and of years: bounds, sums, and the month and the year in which a day falls.
use Prim.Native.Nat.{ℕ, zero, suc, ◌+◌, ◌-◌, ◌*◌, ◌≤◌, ◌<◌}
use mathlib.Core.Path.{◌≡◌, refl}
use mathlib.Core.List.{[]}
use mathlib.Core.Bool.{Bool, true, false}
use native.Mathlib.Omega.{arith}
use lib.Dec.{leb}
use lib.ListN.{get_or}
use borrow.Author.Tests.{leb-true}
use Rattle.base.proofs.Runs.{all_at}
use Rattle.calendar.specs.Calendar.{leap, months, row, month_days, year_days, days_before_year, days_of_months}
use Rattle.calendar.specs.Instant.{year_of, month_of}
use Rattle.calendar.proofs.Years.{years}
use Rattle.calendar.proofs.Spans.{Falls, sum_mono, falls, found}

-- Months. None is longer than 31 days
pub month_to : (y m : ℕ) → m ≤ 12 → month_days y m ≤ 31
unfolding month_days
month_to y m h = leb-true _ 31 (go (leap y))
  where
    go : (l : Bool) → leb (get_or (get_or months (row l) []) (m - 1) 0) 31 ≡ true
    go true = all_at (λ d. leb d 31) (get_or months 1 []) (m - 1) (search depth 16) (omega arith)
    go false = all_at (λ d. leb d 31) (get_or months 0 []) (m - 1) (search depth 16) (omega arith)

module _ (y : ℕ) where
  pub months_none : days_of_months y 0 ≡ 0
  unfolding days_of_months
  months_none = refl

  pub months_more : (k : ℕ) → days_of_months y (suc k) ≡ days_of_months y k + month_days y (suc k)
  unfolding days_of_months
  months_more k = refl

  pub months_to : (k : ℕ) → k ≤ 12 → days_of_months y k ≤ 31 * k
  unfolding days_of_months
  months_to zero h = omega arith
  months_to (suc k) h = omega (arith, months_to k (omega arith), month_to y (suc k) h)

  -- the twelve months are the year
  pub months_all : days_of_months y 12 ≡ year_days y
  unfolding days_of_months year_days month_days
  months_all = go (leap y) refl
    where
      go : (l : Bool) → leap y ≡ l → days_of_months y 12 ≡ year_days y
      go true e = rw e
      go false e = rw e

  pub months_mono : (a b : ℕ) → a ≤ b → days_of_months y a ≤ days_of_months y b
  months_mono = sum_mono (λ k. month_days y (suc k)) (days_of_months y) months_none months_more

  pub month_falls : (n : ℕ) → n < year_days y → Falls (days_of_months y) 12 n (month_of y n)
  unfolding month_of
  month_falls n h = falls (λ k. month_days y (suc k)) (days_of_months y) months_none months_more 12 n (omega (arith, months_all))

  pub month_found : (n k : ℕ) → Falls (days_of_months y) 12 n k → month_of y n ≡ k
  unfolding month_of
  month_found = found (λ k. month_days y (suc k)) (days_of_months y) months_none months_more 12

-- Years
years_none : days_before_year 0 ≡ 0
unfolding days_before_year
years_none = refl

pub years_more : (y : ℕ) → days_before_year (suc y) ≡ days_before_year y + year_days y
unfolding days_before_year
years_more y = refl

pub years_all : days_before_year 10000 ≡ 3652425
years_all = let e = years 10000 in omega arith

pub years_mono : (a b : ℕ) → a ≤ b → days_before_year a ≤ days_before_year b
years_mono = sum_mono year_days days_before_year years_none years_more

pub years_to : (y : ℕ) → y ≤ 10000 → days_before_year y ≤ 3652425
years_to y h = omega (arith, years_mono y 10000 h, years_all)

pub year_falls : (n : ℕ) → n < 3652425 → Falls days_before_year 10000 n (year_of n)
unfolding year_of
year_falls n h = falls year_days days_before_year years_none years_more 10000 n (omega (arith, years_all))

pub year_found : (n y : ℕ) → Falls days_before_year 10000 n y → year_of n ≡ y
unfolding year_of
year_found = found year_days days_before_year years_none years_more 10000
