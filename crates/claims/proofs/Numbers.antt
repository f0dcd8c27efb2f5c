-- Digits that are written read as the number, and the digits of a number are written again.
use Prim.Native.Nat.{ℕ, zero, suc, ◌+◌, ◌-◌, ◌*◌, ◌/◌, ◌%◌, ◌^◌, ◌≤◌, ◌<◌}
use mathlib.Core.Path.{◌≡◌, refl, sym, ap, ap₂, ◌∙◌}
use mathlib.Core.Bool.{Bool, false, ◌&&◌, and-true, and-false}
use mathlib.Core.List.{List, [], ◌∷◌, ◌++◌}
use native.Mathlib.Decide.{dec_le}
use native.Mathlib.Nat.{pow-suc, mul-add-div_right, div-eq_of_lt, mul-add-mod_self_right, mod-eq_of_lt, one-le-pow, pow-le-pow_right, mul-le-mul_right}
use native.Mathlib.Omega.{arith}
use lib.ListN.{length, get_or}
use lib.Dec.{eqb}
use borrow.Author.Tests.{lt-ltb, ne_eqb, eq-eqb}
use Rattle.base.specs.Runs.{All}
use Rattle.base.proofs.Tests.{clash}
use Rattle.base.proofs.Ranges.{inside, orders}
use Rattle.digits.specs.Digits.{is_digit, decimal_from, decimal}
use Rattle.digits.proofs.Decimals.{decimal_append, decimal_front, decimal_lt}
use Rattle.output.specs.Numerals.{fixed, numeral}
use Rattle.output.proofs.Numerals.{length_fixed, one_digit, wide}
use Rattle.grammar.specs.Abnf.{Repeat}
use Rattle.grammar.specs.Line.{zero_led, PrivalOk, VersionOk}

pub all_append : (p : ℕ → Bool) (t u : List ℕ) → All p t → All p u → All p (t ++ u)
all_append p [] u a b = b
all_append p (x ∷ t) u a b = (a.0, all_append p t u a.1 b)

pub fixed_digits : (k n : ℕ) → All is_digit (fixed k n)
unfolding fixed
fixed_digits zero n = tt
fixed_digits (suc k) n =
    all_append is_digit (fixed k (n / 10)) ((48 + n % 10) ∷ []) (fixed_digits k (n / 10)) (inside 48 57 (48 + n % 10) (omega arith) (omega arith), tt)

pub fixed_value : (k n : ℕ) → n < 10 ^ k → decimal (fixed k n) ≡ n
unfolding fixed decimal_from
fixed_value zero n h = omega arith
fixed_value (suc k) n h =
    let l : n / 10 < 10 ^ k = omega (arith, pow-suc 10 k) in
    rw (decimal_append 0 (fixed k (n / 10)) ((48 + n % 10) ∷ []), fixed_value k (n / 10) l) (omega arith)

pub fixed_repeat : (k n : ℕ) → Repeat k k is_digit (fixed k n)
fixed_repeat k n = record { at_least = omega (arith, length_fixed k n); at_most = omega (arith, length_fixed k n); all = fixed_digits k n }

-- ---- digits of one length that write one number are the same

quotient : (x r p : ℕ) → r < p → (x * p + r) / p ≡ x
quotient x r p h = mul-add-div_right (omega arith) x r ∙ rw (div-eq_of_lt h) (omega arith)

remainder : (x r p : ℕ) → r < p → (x * p + r) % p ≡ r
remainder x r p h = mul-add-mod_self_right x p r ∙ mod-eq_of_lt h

pub digits_same : (t u : List ℕ) → All is_digit t → All is_digit u → length t ≡ length u → decimal t ≡ decimal u → t ≡ u
unfolding decimal_from
digits_same [] [] a b l e = refl
digits_same [] (y ∷ u) a b l e = absurd (omega arith)
digits_same (x ∷ t) [] a b l e = absurd (omega arith)
digits_same (x ∷ t) (y ∷ u) a b l e =
    let n : length t ≡ length u = omega arith in
    let p = 10 ^ length t in
    let q : 10 ^ length u ≡ p = ap (λ (k : ℕ). 10 ^ k) (sym n) in
    let m : decimal u < p = rw q at (decimal_lt u b.1) in
    let f : (0 * 10 + (x - 48)) * p + decimal t ≡ (0 * 10 + (y - 48)) * p + decimal u =
    sym (decimal_front (0 * 10 + (x - 48)) t) ∙ e ∙ decimal_front (0 * 10 + (y - 48)) u ∙ ap (λ (k : ℕ). (0 * 10 + (y - 48)) * k + decimal u) q in
    let i : 0 * 10 + (x - 48) ≡ 0 * 10 + (y - 48) =
    sym (quotient _ (decimal t) p (decimal_lt t a.1)) ∙ ap (λ (k : ℕ). k / p) f ∙ quotient _ (decimal u) p m in
    let j : decimal t ≡ decimal u = sym (remainder _ (decimal t) p (decimal_lt t a.1)) ∙ ap (λ (k : ℕ). k % p) f ∙ remainder _ (decimal u) p m in
    let o = orders 48 57 x a.0 in
    let w = orders 48 57 y b.0 in
    let z : x ≡ y = omega arith in
    ap₂ (λ (c : ℕ) (r : List ℕ). c ∷ r) z (digits_same t u a.1 b.1 n j)

-- the digits of a number are written again
pub digits_again : (k : ℕ) (t : List ℕ) → Repeat k k is_digit t → fixed k (decimal t) ≡ t
digits_again k t h =
    let e : length t ≡ k = omega (arith, h.at_least, h.at_most) in
    let l : decimal t < 10 ^ k = rw e at (decimal_lt t h.all) in
    digits_same (fixed k (decimal t)) t (fixed_digits k (decimal t)) h.all (omega (arith, length_fixed k (decimal t))) (fixed_value k (decimal t) l)

-- ---- numbers of one to three digits

pub record Few (n : ℕ) (t : List ℕ) : Type 0 where
  pub digits : Repeat 1 3 is_digit t
  pub value : decimal t ≡ n
  pub first : (1 ≤ n → eqb (get_or t 0 0) 48 ≡ false)
  pub led : zero_led t ≡ false

few_of : (k n : ℕ) → 1 ≤ k → k ≤ 3 → n < 10 ^ k → (1 ≤ n → eqb (get_or (fixed k n) 0 0) 48 ≡ false) → zero_led (fixed k n) ≡ false → Few n (fixed k n)
few_of k n a b v f l =
    record {
      digits = record { at_least = omega (arith, length_fixed k n); at_most = omega (arith, length_fixed k n); all = fixed_digits k n };
      value = fixed_value k n v;
      first = f;
      led = l;
    }

few_1 : (n : ℕ) → n < 10 → Few n (fixed 1 n)
unfolding fixed
few_1 n h = few_of 1 n (omega arith) (omega arith) (omega arith) (λ l. ne_eqb (48 + n % 10) 48 (λ e. omega arith)) (and-false (eqb (48 + n % 10) 48))

few_2 : (n : ℕ) → 10 ≤ n → n < 100 → Few n (fixed 2 n)
unfolding fixed
few_2 n g h =
    let q : eqb (48 + n / 10 % 10) 48 ≡ false = ne_eqb (48 + n / 10 % 10) 48 (λ e. omega arith) in
    few_of 2 n (omega arith) (omega arith) (omega arith) (λ l. q) (rw q)

few_3 : (n : ℕ) → 100 ≤ n → n < 1000 → Few n (fixed 3 n)
unfolding fixed
few_3 n g h =
    let q : eqb (48 + n / 10 / 10 % 10) 48 ≡ false = ne_eqb (48 + n / 10 / 10 % 10) 48 (λ e. omega arith) in
    few_of 3 n (omega arith) (omega arith) (omega arith) (λ l. q) (rw q)

pub numeral_few : (n : ℕ) → n ≤ 999 → Few n (numeral n)
numeral_few n h = go (dec_le 10 n) (dec_le 100 n)
  where
    go : Dec (10 ≤ n) → Dec (100 ≤ n) → Few n (numeral n)
    go (no p) q = rw (← one_digit 9 n (omega arith)) (few_1 n (omega arith))
    go (yes p) (no q) = rw (← wide 9 0 n (omega arith) (omega arith) (omega arith)) (few_2 n p (omega arith))
    go (yes p) (yes q) = rw (← wide 9 1 n (omega arith) (omega arith) (omega arith)) (few_3 n q (omega arith))

pub prival_written : (n : ℕ) → n ≤ 191 → PrivalOk (numeral n)
prival_written n h =
    let f = numeral_few n (omega arith) in
    record { digits = f.digits; plain = f.led; range = omega (arith, f.value) }

pub version_written : (n : ℕ) → 1 ≤ n → n ≤ 999 → VersionOk (numeral n)
version_written n l h =
    let f = numeral_few n h in
    record { digits = f.digits; nonzero = f.first l }

pub few_said : (n : ℕ) → n ≤ 999 → decimal (numeral n) ≡ n
few_said n h = (numeral_few n h).value

-- a number of at most three digits
pub few_to : (t : List ℕ) → Repeat 1 3 is_digit t → decimal t ≤ 999
few_to t h =
    let l : decimal t < 10 ^ length t = decimal_lt t h.all in
    let m : 10 ^ length t ≤ 10 ^ 3 = pow-le-pow_right (omega arith) {i = length t} {j = 3} h.at_most in
    omega arith

-- a digit that is not 0 in front
pub nonzero_least : (t : List ℕ) → All is_digit t → 1 ≤ length t → eqb (get_or t 0 0) 48 ≡ false → 10 ^ (length t - 1) ≤ decimal t
unfolding decimal_from
nonzero_least [] a l h = absurd (omega arith)
nonzero_least (b ∷ t) a l h =
    let o = orders 48 57 b a.0 in
    let e : suc (length t) - 1 ≡ length t = omega arith in
    let d = decimal_front (0 * 10 + (b - 48)) t in
    let n : 1 ≤ b - 48 = go (dec_le b 48) in
    let m : 1 * 10 ^ length t ≤ (0 * 10 + (b - 48)) * 10 ^ length t = mul-le-mul_right (10 ^ length t) (omega arith) in
    rw e (omega arith)
  where
    go : Dec (b ≤ 48) → 1 ≤ b - 48
    go (yes p) = clash (sym (eq-eqb b 48 (omega (arith, (orders 48 57 b a.0).0))) ∙ h)
    go (no p) = omega arith

pub version_least : (t : List ℕ) → VersionOk t → 1 ≤ decimal t
version_least t h =
    let l = nonzero_least t h.digits.all h.digits.at_least h.nonzero in
    let m : 1 ≤ 10 ^ (length t - 1) = one-le-pow (length t - 1) 10 (omega arith) in
    omega arith

exactly : (k : ℕ) (t : List ℕ) → Repeat 1 3 is_digit t → length t ≡ k → fixed k (decimal t) ≡ t
exactly k t h e = digits_again k t (record { at_least = omega arith; at_most = omega arith; all = h.all })

no_zero : (t : List ℕ) → zero_led t ≡ false → 1 < length t → eqb (get_or t 0 0) 48 ≡ false
no_zero t h l = sym (and-true (eqb (get_or t 0 0) 48)) ∙ ap (λ (b : Bool). eqb (get_or t 0 0) 48 && b) (sym (lt-ltb 1 (length t) l)) ∙ h

pub numeral_again : (t : List ℕ) → Repeat 1 3 is_digit t → zero_led t ≡ false → numeral (decimal t) ≡ t
numeral_again t h z = go (length t) refl
  where
    go : (k : ℕ) → length t ≡ k → numeral (decimal t) ≡ t
    go zero e = absurd (omega (arith, h.at_least))
    go (suc zero) e =
        let l : decimal t < 10 ^ 1 = rw e at (decimal_lt t h.all) in
        rw (← one_digit 9 (decimal t) (omega arith)) (exactly 1 t h e)
    go (suc (suc zero)) e =
        let l : decimal t < 10 ^ 2 = rw e at (decimal_lt t h.all) in
        let m : 10 ^ 1 ≤ decimal t = rw e at (nonzero_least t h.all h.at_least (no_zero t z (omega arith))) in
        rw (← wide 9 0 (decimal t) (omega arith) (omega arith) (omega arith)) (exactly 2 t h e)
    go (suc (suc (suc zero))) e =
        let l : decimal t < 10 ^ 3 = rw e at (decimal_lt t h.all) in
        let m : 10 ^ 2 ≤ decimal t = rw e at (nonzero_least t h.all h.at_least (no_zero t z (omega arith))) in
        rw (← wide 9 1 (decimal t) (omega arith) (omega arith) (omega arith)) (exactly 3 t h e)
    go (suc (suc (suc (suc k)))) e = absurd (omega (arith, h.at_most))

pub prival_again : (t : List ℕ) → PrivalOk t → numeral (decimal t) ≡ t
prival_again t h = numeral_again t h.digits h.plain

pub version_again : (t : List ℕ) → VersionOk t → numeral (decimal t) ≡ t
version_again t h = numeral_again t h.digits (rw h.nonzero)
