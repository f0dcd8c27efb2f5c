-- The walks over months and years, and the number of a day.
use Prim.Native.Nat.{ℕ, zero, suc, ◌+◌, ◌-◌, ◌*◌, ◌/◌, ◌≤◌, ◌<◌}
use mathlib.Core.Path.{◌≡◌, refl, sym, ap, ◌∙◌}
use mathlib.Core.Bool.{Bool, true, false}
use mathlib.Core.List.{List, [], ◌∷◌}
use native.Mathlib.Omega.{arith}
use native.Mathlib.Numerals.{add-one}
use native.Mathlib.Nat.{add-zero, zero-add}
use lib.ListN.{length, get_or}
use mir.Syntax.{w32}
use mir.Val.{Fits}
use Rattle.calendar.specs.Calendar.{last_year, leap, months, row, month_days, year_days, days_before_year, days_of_months, day_number}
use Rattle.calendar.specs.Instant.{year_of, month_of}
use Rattle.calendar.proofs.Years.{years}
use Rattle.calendar.proofs.Days.{months_none, months_more, months_to, months_all, month_found, years_all, years_to, year_found}

-- what stands before each number of a list, and behind the last: the sum of those before it
unfoldable sums : ℕ → List ℕ → List ℕ
sums a [] = a ∷ []
sums a (d ∷ ds) = a ∷ sums (a + d) ds

sums_at : (y j a k : ℕ) (ds : List ℕ) → ((i : ℕ) → i < length ds → get_or ds i 0 ≡ month_days y (suc (j + i))) → a ≡ days_of_months y j → k ≤ length ds
    → get_or (sums a ds) k 0 ≡ days_of_months y (j + k)
unfolding sums
sums_at y j a zero [] f e h = e ∙ ap (days_of_months y) (sym (add-zero j))
sums_at y j a zero (d ∷ ds) f e h = e ∙ ap (days_of_months y) (sym (add-zero j))
sums_at y j a (suc k) [] f e h = absurd (omega arith)
sums_at y j a (suc k) (d ∷ ds) f e h =
    let g : d ≡ month_days y (suc j) = f 0 (omega arith) ∙ ap (λ (m : ℕ). month_days y (suc m)) (add-zero j) in
    let p : a + d ≡ days_of_months y (suc j) = rw (e, g) (sym (months_more y j)) in
    let q : suc j + k ≡ j + suc k = omega arith in
    sums_at y (suc j) (a + d) k ds (λ i l. let r : j + suc i ≡ suc j + i = omega arith in f (suc i) (omega arith) ∙ ap (λ (m : ℕ). month_days y (suc m)) r) p (omega arith)
    ∙ ap (days_of_months y) q

days : (y i : ℕ) (l : Bool) → leap y ≡ l → get_or (get_or months (row l) []) i 0 ≡ month_days y (suc (0 + i))
unfolding month_days
days y i l e =
    let p : suc (0 + i) - 1 ≡ i = omega arith in
    rw (e, p)

abbrev befores : List (List ℕ)
befores =
    (0 ∷ 31 ∷ 59 ∷ 90 ∷ 120 ∷ 151 ∷ 181 ∷ 212 ∷ 243 ∷ 273 ∷ 304 ∷ 334 ∷ 365 ∷ [])
    ∷ (0 ∷ 31 ∷ 60 ∷ 91 ∷ 121 ∷ 152 ∷ 182 ∷ 213 ∷ 244 ∷ 274 ∷ 305 ∷ 335 ∷ 366 ∷ [])
    ∷ []

table : (y n : ℕ) (l : Bool) → leap y ≡ l → n ≤ 12
    → get_or (get_or befores (row l) []) n 0 ≡ days_of_months y n
unfolding sums
table y n true e h = sums_at y 0 0 n (get_or months 1 []) (λ i l. days y i true e) (sym (months_none y)) h ∙ ap (days_of_months y) (zero-add n)
table y n false e h = sums_at y 0 0 n (get_or months 0 []) (λ i l. days y i false e) (sym (months_none y)) h ∙ ap (days_of_months y) (zero-add n)

pub months_at : (y n l : ℕ) → l ≡ row (leap y) → n ≤ 12
    → get_or (get_or befores l []) n 0 ≡ days_of_months y n
months_at y n l e h = rw e (table y n (leap y) refl h)

-- day `n` of the year falls in month `k`, from 0, or in a later one
pub record MonthAt (y n k : ℕ) : Type 0 where
  pub one_of : k ≤ 11
  pub from : days_of_months y k ≤ n

pub month_start : (y n : ℕ) → MonthAt y n 0
month_start y n = record { one_of = omega arith; from = omega (arith, months_none y) }

module _ (y n k : ℕ) (i : MonthAt y n k) where
  month_ends : n < days_of_months y (k + 1) → k ≡ month_of y n
  month_ends l = sym (month_found y n k (record { one_of = omega (arith, i.one_of); from = i.from; to = rw add-one at l }))

  module _ (d : ℕ) (e : d ≡ days_of_months y (k + 1)) where
    pub month_next : k < 11 → d ≤ n → MonthAt y n (k + 1)
    month_next h l = record { one_of = omega arith; from = omega arith }

    pub month_end : n < d → k ≡ month_of y n
    month_end l = month_ends (omega arith)

  pub month_last : n < year_days y → 11 ≤ k → 11 ≡ month_of y n
  month_last h l =
      let k_is : k ≡ 11 = omega (arith, i.one_of) in
      sym k_is ∙ month_ends (rw k_is (omega (arith, months_all y)))

-- day `n` falls in year `y` or in a later one; a guess by four years of 1461 days is never late
pub record YearAt (n y : ℕ) : Type 0 where
  pub one_of : y ≤ last_year
  pub from : days_before_year y ≤ n

pub year_start : (n : ℕ) → n < 3652425 → YearAt n (n / 1461 * 4)
year_start n h = record { one_of = omega arith; from = omega (arith, years (n / 1461 * 4)) }

module _ (n y : ℕ) (i : YearAt n y) where
  year_ends : n < days_before_year (y + 1) → y ≡ year_of n
  year_ends l = sym (year_found n y (record { one_of = omega (arith, i.one_of); from = i.from; to = rw add-one at l }))

  module _ (next : ℕ) (e : next ≡ days_before_year (y + 1)) where
    pub year_next : y < last_year → next ≤ n → YearAt n (y + 1)
    year_next h l = record { one_of = omega arith; from = omega arith }

    pub year_end : n < next → y ≡ year_of n
    year_end l = year_ends (omega arith)

  pub year_last : n < 3652425 → last_year ≤ y → last_year ≡ year_of n
  year_last h l =
      let y_is : y ≡ last_year = omega (arith, i.one_of) in
      sym y_is ∙ year_ends (rw y_is (omega (arith, years_all)))

-- the number of a day
module _ (y m d a b : ℕ) (p : a ≡ days_before_year y) (q : b ≡ days_of_months y (m - 1)) where
  pub day_is : a + b + (d - 1) ≡ day_number y m d
  unfolding day_number
  day_is = rw (p, q)

  module _ (hy : y ≤ last_year) (hm : m ≤ 12) where
    pub day_first : Fits w32 (a + b)
    day_first = record { fits = omega (arith, years_to y (omega arith), months_to y (m - 1) (omega arith)) }

    pub day_fits : d ≤ 31 → Fits w32 (a + b + (d - 1))
    day_fits h = record { fits = omega (arith, years_to y (omega arith), months_to y (m - 1) (omega arith)) }

pub ruleset month_laws = (month_start, month_next, month_end, month_last)

pub ruleset year_laws = (year_start, year_next, year_end, year_last)

pub ruleset day_laws = (day_first, day_fits, day_is)
