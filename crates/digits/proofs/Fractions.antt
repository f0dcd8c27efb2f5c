-- `fraction_at`: what it answers, on which text, and a fraction in nanoseconds.
use Rattle.std.specs.Prelude.{Option, Some, None}
use Prim.Native.Nat.{ℕ, suc, ◌+◌, ◌-◌, ◌*◌, ◌^◌, ◌≤◌, ◌<◌}
use mathlib.Core.Path.{◌≡◌, sym, ap, ◌∙◌}
use mathlib.Core.Bool.{false, ◌&&◌, and-false}
use mathlib.Core.List.{List, ◌++◌}
use native.Mathlib.Nat.{one-le-pow, add-mul, mul-le-mul_right, pow-le-pow_right}
use native.Mathlib.Omega.{arith}
use lib.Dec.{leb}
use lib.ListN.{length, take}
use lib.Pow.{pow-add}
use lib.Seq.{take-append_seam}
use mir.Syntax.{w32}
use mir.Val.{Fits}
use borrow.Author.Tests.{le-leb, lt-leb, leb-true}
use Rattle.base.specs.Runs.{All}
use Rattle.base.proofs.Tests.{both, by_test}
use Rattle.base.proofs.Runs.{run_le, run_text}
use Rattle.digits.specs.Digits.{is_digit, digit_run, decimal, number_at, fraction_at}
use Rattle.digits.proofs.Choices.{chosen, not_chosen}
use Rattle.digits.proofs.Decimals.{decimal_front_lt}
use Rattle.digits.proofs.Numbers.{IsNumber, number_is}

-- the unit of a fraction as a divisor
pub unit_some : (n u : ℕ) → u ≡ 10 ^ (9 - n) → 0 < u
unit_some n u e = rw e (one-le-pow (9 - n) 10 (omega arith))

-- `v` of `n` digits is less than a second
pub below_second : (v n : ℕ) → (n ≤ 9) × (v < 10 ^ n) → v * 10 ^ (9 - n) < 10 ^ 9
below_second v n h =
    let p = 10 ^ (9 - n) in
    let l : suc v * p ≤ 10 ^ n * p = mul-le-mul_right p h.1 in
    let k : n + (9 - n) ≡ 9 = omega (arith, h.0) in
    let q : 10 ^ n * p ≡ 10 ^ 9 = sym (pow-add 10 n (9 - n)) ∙ ap (λ (j : ℕ). 10 ^ j) k in
    let z : 1 ≤ p = one-le-pow (9 - n) 10 (omega arith) in
    omega (arith, q, add-mul 1 v p)

pub record IsFraction (most : ℕ) (s : List ℕ) (v n : ℕ) : Type 0 where
  pub whole : n ≡ digit_run s
  pub value : v ≡ decimal (take n s) * 10 ^ (9 - n)
  pub some : 1 ≤ n
  pub few : n ≤ most

module _ (most : ℕ) (s : List ℕ) (v n : ℕ) (e : fraction_at most s ≡ Some (v, n)) where
  pub fraction_is : IsFraction most s v n
  unfolding fraction_at
  fraction_is =
      let k = digit_run s in
      let c = chosen _ _ _ _ _ e in
      let t = both (leb 1 k) (leb k most) c.test in
      record {
        whole = sym c.len;
        value = sym c.value ∙ ap (λ (i : ℕ). decimal (take i s) * 10 ^ (9 - i)) c.len;
        some = omega (arith, leb-true 1 k t.0, c.len);
        few = omega (arith, leb-true k most t.1, c.len);
      }

  pub fraction_len_lem : most ≤ 9 → (1 ≤ n) × (n ≤ most) × (n ≤ length s) × (v < 10 ^ 9)
  fraction_len_lem h =
      let i = fraction_is in
      let l : decimal (take n s) < 10 ^ n = decimal_front_lt s n (omega (arith, i.whole)) in
      (i.some, i.few, omega (arith, i.whole, run_le is_digit s), rw i.value (below_second (decimal (take n s)) n (omega (arith, i.few), l)))

-- digits, and after them a byte that is none
pub fraction_text_lem : (most : ℕ) (t r : List ℕ) → All is_digit t → 1 ≤ length t → length t ≤ most → digit_run r ≡ 0
    → fraction_at most (t ++ r) ≡ Some (decimal t * 10 ^ (9 - length t), length t)
unfolding fraction_at
fraction_text_lem most t r a h g z = rw (run_text is_digit t r a z, take-append_seam t r, le-leb 1 (length t) h, le-leb (length t) most g)

-- a number of nine digits at most is read, and then counted
module _ (most : ℕ) (s : List ℕ) (h : most ≤ 9) (f : Option (ℕ × ℕ)) (ef : f ≡ number_at 999999999 s) where
  pub fraction_none : f ≡ None → None ≡ fraction_at most s
  unfolding number_at fraction_at
  fraction_none e = rw (few (digit_run s) (decimal_front_lt s (digit_run s) (omega arith)) (not_chosen _ _ _ (sym ef ∙ e)))
    where
      few : (k : ℕ) → decimal (take k s) < 10 ^ k → (leb 1 k && leb (decimal (take k s)) 999999999) ≡ false → (leb 1 k && leb k most) ≡ false
      few k l t =
          by_test (λ b. (leb 1 k && b) ≡ false) (leb k most)
          (λ m. let g : 10 ^ k ≤ 10 ^ 9 = pow-le-pow_right (omega arith) {i = k} {j = 9} (omega (arith, leb-true k most m)) in
          rw (le-leb (decimal (take k s)) 999999999 (omega arith)) at t)
          (λ m. and-false (leb 1 k))

  module _ (v n : ℕ) (ev : f ≡ Some (v, n)) where
    is : IsNumber 999999999 s v n
    is = number_is 999999999 s v n (sym ef ∙ ev)

    pub fraction_many : most < n → None ≡ fraction_at most s
    unfolding fraction_at
    fraction_many l = rw (← is.whole, lt-leb n most l, and-false)

    module _ (l : n ≤ most) where
      fraction_small : v < 10 ^ n
      fraction_small = rw is.value (decimal_front_lt s n (omega (arith, is.whole)))

      pub fraction_fits : (u : ℕ) → u ≡ 10 ^ (9 - n) → Fits w32 (v * u)
      fraction_fits u e = record { fits = rw e (omega (arith, below_second v n (omega arith, fraction_small))) }

      pub fraction_value : (w : ℕ) → w ≡ v * 10 ^ (9 - n) → Some (w, n) ≡ fraction_at most s
      unfolding fraction_at
      fraction_value w e = rw (← is.whole, ← is.value, le-leb n most l, le-leb 1 n is.some, e)

pub ruleset fraction_laws = (fraction_none, fraction_many, fraction_fits, fraction_value)
