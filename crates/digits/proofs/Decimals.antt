-- Digits, and the numbers that they write.
use Prim.Native.Nat.{ℕ, ◌+◌, ◌-◌, ◌*◌, ◌^◌, ◌≤◌, ◌<◌}
use mathlib.Core.Path.{◌≡◌, refl, ap, ◌∙◌}
use mathlib.Core.Bool.{true}
use mathlib.Core.List.{List, [], ◌∷◌, ◌++◌}
use native.Mathlib.Nat.{pow-succ', mul_assoc, add-mul, mul-le-mul_right}
use native.Mathlib.Omega.{arith}
use lib.Dec.{leb}
use lib.ListN.{length, take}
use lib.Seq.{take-add}
use borrow.Author.Tests.{leb-true}
use Rattle.base.specs.Runs.{All}
use Rattle.base.proofs.Tests.{both}
use Rattle.digits.specs.Digits.{is_digit, digit_run, decimal_from, decimal}
use Rattle.base.proofs.Runs.{run_front, run_front_length}

-- what a digit is
module _ (b : ℕ) (e : is_digit b ≡ true) where
  tests : (leb 48 b ≡ true) × (leb b 57 ≡ true)
  tests = both (leb 48 b) (leb b 57) e

  pub digit_low : 48 ≤ b
  digit_low = leb-true 48 b tests.0

  pub digit_small : b - 48 ≤ 9
  digit_small = omega (arith, leb-true b 57 tests.1)

pub decimal_append : (v : ℕ) (t u : List ℕ) → decimal_from v (t ++ u) ≡ decimal_from (decimal_from v t) u
unfolding decimal_from
decimal_append v [] u = refl
decimal_append v (b ∷ t) u = decimal_append (v * 10 + (b - 48)) t u

-- what stands in front counts tenfold for each digit after it
pub decimal_front : (v : ℕ) (t : List ℕ) → decimal_from v t ≡ v * 10 ^ length t + decimal t
unfolding decimal_from
decimal_front v [] = omega arith
decimal_front v (b ∷ t) =
    let p = 10 ^ length t in
    let d = b - 48 in
    let l : (v * 10 + d) * p ≡ v * (10 * p) + d * p = add-mul (v * 10) d p ∙ ap (λ (n : ℕ). n + d * p) (mul_assoc v 10 p) in
    rw pow-succ' (omega (arith, decimal_front (v * 10 + d) t, decimal_front (0 * 10 + d) t))

-- k digits write a number below 10 ^ k
pub decimal_lt : (t : List ℕ) → All is_digit t → decimal t < 10 ^ length t
unfolding decimal_from
decimal_lt [] a = omega arith
decimal_lt (b ∷ t) a =
    let p = 10 ^ length t in
    let m : (b - 48) * p ≤ 9 * p = mul-le-mul_right p (digit_small b a.0) in
    rw pow-succ' (omega (arith, decimal_front (0 * 10 + (b - 48)) t, decimal_lt t a.1))

pub decimal_front_lt : (s : List ℕ) (k : ℕ) → k ≤ digit_run s → decimal (take k s) < 10 ^ k
decimal_front_lt s k h = rw (run_front_length is_digit s k h) at (decimal_lt (take k s) (run_front is_digit s k h))

-- more digits write no smaller number
decimal_grows : (v : ℕ) (t : List ℕ) → v ≤ decimal_from v t
unfolding decimal_from
decimal_grows v [] = omega arith
decimal_grows v (b ∷ t) = omega (arith, decimal_grows (v * 10 + (b - 48)) t)

pub decimal_more : (s : List ℕ) (m n : ℕ) → m ≤ n → decimal (take m s) ≤ decimal (take n s)
decimal_more s m n h =
    let e : n ≡ m + (n - m) = omega arith in
    rw (e, take-add m (n - m) s, decimal_append) (decimal_grows _ _)
