-- The days of the years before a year, in closed form.
use Rattle.std.specs.Prelude.{if◌then◌else◌}
use Prim.Native.Nat.{ℕ, zero, suc, ◌+◌, ◌-◌, ◌*◌, ◌/◌, ◌%◌, ◌<◌}
use mathlib.Core.Path.{◌≡◌, refl}
use mathlib.Core.Bool.{Bool, true, false, ◌&&◌, ◌||◌, not}
use native.Mathlib.Omega.{arith}
use native.Mathlib.Nat.{div-add-mod', mul-add-div_right, add-div_right, div-eq_of_lt, mod-lt, zero-add}
use lib.Dec.{eqb}
use borrow.Author.Tests.{eqb-true, eqb-false, ne_eqb}
use Rattle.calendar.specs.Calendar.{leap, row, year_days, days_before_year}

-- of the numbers below `y`, one more is a multiple of `suc k` where `y` is
part : (k r : ℕ) → r < suc k → (r + k) / suc k + row (eqb r 0) ≡ 1
part k zero h = let l : k < suc k = omega arith in rw (zero-add k, div-eq_of_lt l)
part k (suc r) h =
    let p : 0 < suc k = omega arith in
    let e : suc r + k ≡ r + suc k = omega arith in
    let l : r < suc k = omega arith in
    rw (e, add-div_right r, div-eq_of_lt l, ne_eqb (suc r) 0 (λ z. omega arith))

multiples : (k y : ℕ) → (suc y + k) / suc k ≡ (y + k) / suc k + row (eqb (y % suc k) 0)
multiples k y =
    let p : 0 < suc k = omega arith in
    let e : suc y + k ≡ y + suc k = omega arith in
    let d : y + k ≡ y / suc k * suc k + (y % suc k + k) = omega (arith, div-add-mod' y (suc k)) in
    let a : (suc y + k) / suc k ≡ y / suc k + 1 = rw (e, add-div_right y) in
    let b : (y + k) / suc k ≡ y / suc k + (y % suc k + k) / suc k = rw (d, mul-add-div_right p) in
    omega (arith, part k (y % suc k) (mod-lt y p))

year_by : (y : ℕ) (a b c : Bool) → eqb (y % 4) 0 ≡ a → eqb (y % 100) 0 ≡ b → eqb (y % 400) 0 ≡ c
    → (if (a && (not b || c)) then 366 else 365) + row b ≡ 365 + row a + row c
year_by y true true true p q r = refl
year_by y true true false p q r = refl
year_by y true false true p q r = absurd (omega (arith, eqb-false (y % 100) 0 q, eqb-true (y % 400) 0 r))
year_by y true false false p q r = refl
year_by y false true true p q r = refl
year_by y false true false p q r = absurd (omega (arith, eqb-false (y % 4) 0 p, eqb-true (y % 100) 0 q))
year_by y false false true p q r = absurd (omega (arith, eqb-false (y % 4) 0 p, eqb-true (y % 400) 0 r))
year_by y false false false p q r = refl

year_step : (y : ℕ) → year_days y + row (eqb (y % 100) 0) ≡ 365 + row (eqb (y % 4) 0) + row (eqb (y % 400) 0)
unfolding year_days leap
year_step y = year_by y _ _ _ refl refl refl

pub years : (y : ℕ) → days_before_year y + (y + 99) / 100 ≡ 365 * y + (y + 3) / 4 + (y + 399) / 400
unfolding days_before_year
years zero = refl
years (suc y) = omega (arith, years y, year_step y, multiples 3 y, multiples 99 y, multiples 399 y)

pub years_closed : (y r : ℕ) → r ≡ 365 * y + (y + 3) / 4 + (y + 399) / 400 - (y + 99) / 100 → r ≡ days_before_year y
years_closed y r e = let h = years y in omega arith
