-- `number_at`: what it answers, on which text, and the loop that reads it.
use Rattle.std.specs.Prelude.{if◌then◌else◌, Option, Some, None}
use Prim.Native.Nat.{ℕ, ◌+◌, ◌-◌, ◌*◌, ◌≤◌, ◌<◌}
use mathlib.Core.Path.{◌≡◌, refl, sym, ap, ◌∙◌}
use mathlib.Core.Bool.{true, false, and-true, and-false}
use mathlib.Core.List.{List}
use native.Mathlib.Numerals.{add-one}
use native.Mathlib.Omega.{arith}
use lib.Dec.{leb}
use lib.ListN.{length, get_or, take}
use lib.Seq.{take-suc}
use borrow.Author.Tests.{le-leb, lt-leb, leb-true}
use Rattle.base.proofs.Tests.{both}
use Rattle.base.proofs.Runs.{run_le, Runs, runs_start, runs_out, runs_yes, runs_no}
use Rattle.digits.specs.Digits.{is_digit, digit_run, decimal_from, decimal, number_at}
use Rattle.digits.proofs.Choices.{chosen}
use Rattle.digits.proofs.Decimals.{decimal_append, decimal_more}

pub record IsNumber (max : ℕ) (s : List ℕ) (v n : ℕ) : Type 0 where
  pub whole : n ≡ digit_run s
  pub value : v ≡ decimal (take n s)
  pub some : 1 ≤ n
  pub small : v ≤ max

module _ (max : ℕ) (s : List ℕ) (v n : ℕ) (e : number_at max s ≡ Some (v, n)) where
  pub number_is : IsNumber max s v n
  unfolding number_at
  number_is =
      let k = digit_run s in
      let d = decimal (take k s) in
      let c = chosen _ _ _ _ _ e in
      let t = both (leb 1 k) (leb d max) c.test in
      record {
        whole = sym c.len;
        value = sym c.value ∙ ap (λ (i : ℕ). decimal (take i s)) c.len;
        some = omega (arith, leb-true 1 k t.0, c.len);
        small = omega (arith, leb-true d max t.1, c.value);
      }

  pub number_len : (1 ≤ n) × (n ≤ length s) × (v ≤ max)
  number_len = let i = number_is in (i.some, omega (arith, run_le is_digit s), i.small)

-- after the first `i` bytes, which are digits and write `v`
pub record Passed (s : List ℕ) (max i v : ℕ) : Type 0 where
  pub run_is : Runs is_digit s (digit_run s) i
  pub small : v ≤ max
  pub value : v ≡ decimal (take i s)

pub passed_none : (s : List ℕ) (max : ℕ) → Passed s max 0 0
unfolding decimal_from
passed_none s max = record { run_is = runs_start is_digit s; small = omega arith; value = refl }

module _ (s : List ℕ) (max i v : ℕ) (p : Passed s max i v) where
  ended : (a : Option (ℕ × ℕ)) → i ≡ digit_run s → a ≡ (if leb 1 i then Some (v, i) else None) → a ≡ number_at max s
  unfolding number_at
  ended a n e = e ∙ rw (← n, ← p.value, le-leb v max p.small, and-true)

  pub ended_text : (a : Option (ℕ × ℕ)) → length s ≤ i → i ≤ length s → a ≡ (if leb 1 (length s) then Some (v, length s) else None) → a ≡ number_at max s
  ended_text a h g e = let n : length s ≡ i = omega arith in ended a (runs_out is_digit s _ i p.run_is h) (rw n at e)

  module _ (h : i < length s) where
    pub ended_digits : (a : Option (ℕ × ℕ)) → is_digit (get_or s i 0) ≡ false → a ≡ (if leb 1 i then Some (v, i) else None) → a ≡ number_at max s
    ended_digits a q e = ended a (runs_no is_digit s _ i p.run_is h q) e

    -- one digit more
    module _ (x : ℕ) (d : (is_digit (get_or s i 0) ≡ true) × (x ≡ get_or s i 0 - 48) × (x ≤ 9)) where
      more : v * 10 + x ≡ decimal (take (i + 1) s)
      unfolding decimal_from
      more = rw (d.1, add-one i, take-suc s i 0, decimal_append, ← p.value)

      longer : Runs is_digit s (digit_run s) (i + 1)
      longer = runs_yes is_digit s _ i p.run_is h d.0

      pub passed_more : (w : ℕ) → w ≡ v * 10 + x → w ≤ max → Passed s max (i + 1) w
      passed_more w e m = record { run_is = longer; small = m; value = e ∙ more }

      pub too_large : max < v * 10 + x → None ≡ number_at max s
      unfolding number_at
      too_large m =
          let g : max < decimal (take (digit_run s) s) = omega (arith, more, decimal_more s (i + 1) (digit_run s) (omega (arith, longer))) in
          rw (lt-leb (decimal (take (digit_run s) s)) max g, and-false)

pub ruleset number_laws = (passed_none, passed_more, ended_text, ended_digits, too_large)
