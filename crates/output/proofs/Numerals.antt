-- Digits: how many, and the number's width.
use Rattle.std.specs.Prelude.{if◌then◌else◌}
use Prim.Native.Nat.{ℕ, zero, suc, ◌+◌, ◌-◌, ◌/◌, ◌%◌, ◌^◌, ◌≤◌, ◌<◌}
use mathlib.Core.Path.{◌≡◌, refl, sym, ap, ◌∙◌}
use mathlib.Core.List.{List, [], ◌∷◌}
use native.Mathlib.Omega.{arith}
use lib.Dec.{ltb}
use lib.ListN.{length, set, length-append}
use native.Mathlib.Nat.{pow-suc}
use borrow.Author.Tests.{lt-ltb, le-ltb}
use Rattle.base.proofs.Tests.{by_test}
use Rattle.output.specs.Output.{Wrote}
use Rattle.output.specs.Fits.{Fits}
use Rattle.output.specs.Numerals.{fixed, width_from, width, numeral}
use Rattle.output.proofs.Writes.{Owes, owes_less, owes_none}

pub length_fixed : (k n : ℕ) → length (fixed k n) ≡ k
unfolding fixed
length_fixed zero n = refl
length_fixed (suc k) n = length-append (fixed k (n / 10)) ((48 + n % 10) ∷ []) ∙ omega (arith, length_fixed k (n / 10))

pub digits_fit_lem : (o : List ℕ) (at k n : ℕ) → Fits o at (fixed k n) → at + k ≤ length o
digits_fit_lem o at k n f = omega (arith, f.fits, length_fixed k n)

-- digits that are written from the back: `left` of them still to come, of `rest`
module _ (o : List ℕ) (at k n : ℕ) (p : List ℕ) where
  pub digit_less : (left rest : ℕ) → Owes o at (fixed k n) p at (fixed left rest) → at + k ≤ length o → left ≤ k → 0 < left
      → Owes o at (fixed k n) (set p (at + (left - 1)) (48 + rest % 10)) at (fixed (left - 1) (rest / 10))
  unfolding fixed
  digit_less zero rest w f l z = absurd (omega arith)
  digit_less (suc j) rest w f l z =
      let e : suc j - 1 ≡ j = omega arith in
      rw e (owes_less o at (fixed k n) p at (fixed j (rest / 10)) (48 + rest % 10) (at + j) w (omega (arith, length_fixed j (rest / 10))) (omega (arith, w.same)))

  pub digits_all : (left rest : ℕ) → Owes o at (fixed k n) p at (fixed left rest) → left ≤ 0 → Wrote o at (fixed k n) (at + k) p
  unfolding fixed
  digits_all zero rest w h = owes_none o at (fixed k n) p at (at + k) w (omega (arith, length_fixed k n))
  digits_all (suc left) rest w h = absurd (omega arith)

-- The width: one digit below ten, one more than a tenth's from ten on
pub one_digit : (f n : ℕ) → n < 10 → 1 ≡ width_from f n
unfolding width_from
one_digit zero n h = refl
one_digit (suc f) n h = rw (lt-ltb n 10 h)

more_digits : (f n : ℕ) → 10 ≤ n → width_from (suc f) n ≡ suc (width_from f (n / 10))
unfolding width_from
more_digits f n h = rw (le-ltb n 10 h)

-- `k + 2` digits from `10 ^ (k + 1)` on
pub wide : (f k n : ℕ) → k < f → 10 ^ suc k ≤ n → n < 10 ^ suc (suc k) → suc (suc k) ≡ width_from f n
wide zero k n l p q = absurd (omega arith)
wide (suc f) zero n l p q = ap suc (one_digit f (n / 10) (omega arith)) ∙ sym (more_digits f n p)
wide (suc f) (suc k) n l p q =
    let a : 10 ^ suc k ≤ n / 10 = omega (arith, pow-suc 10 (suc k)) in
    let b : n / 10 < 10 ^ suc (suc k) = omega (arith, pow-suc 10 (suc (suc k))) in
    ap suc (wide f k (n / 10) (omega arith) a b) ∙ sym (more_digits f n (omega (arith, pow-suc 10 k)))

-- at most ten digits
pub width_le : (f n : ℕ) → width_from f n ≤ suc f
unfolding width_from
width_le zero n = omega arith
width_le (suc f) n =
    let l = width_le f (n / 10) in
    by_test (λ b. (if b then 1 else suc (width_from f (n / 10))) ≤ suc (suc f)) (ltb n 10) (λ e. omega arith) (λ e. omega arith)

-- a numeral, its width found
pub numeral_is : (k n : ℕ) → k ≡ width n → fixed k n ≡ numeral n
numeral_is k n e = rw e
