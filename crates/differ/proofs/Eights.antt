-- Two texts compared by eight bytes at a time.
use Prim.Native.Nat.{ℕ, ◌+◌, ◌-◌, ◌≤◌, ◌<◌}
use mathlib.Core.Path.{◌≡◌, refl, sym, ap, ap₂, subst, ◌∙◌}
use mathlib.Core.Bool.{Bool, true, false, not}
use mathlib.Core.List.{List}
use native.Mathlib.Omega.{arith}
use lib.Dec.{eqb}
use lib.ListN.{length, get_or, drop}
use borrow.Author.Tests.{eq-eqb, not-true}
use Rattle.base.specs.Texts.{same_text}
use Rattle.base.proofs.Tests.{both, clash, told}
use Rattle.base.proofs.Parts.{step}
use Rattle.base.proofs.Texts.{same_not, same_lengths}
use Rattle.differ.specs.Steps.{same_eight}

-- the first i bytes are the same: what is left tells
pub record Kept (a b : List ℕ) (i : ℕ) : Type 0 where
  pub lengths : length a ≡ length b
  pub inside : i ≤ length a
  pub same : same_text a b ≡ same_text (drop i a) (drop i b)

eight_self : (a : List ℕ) (i : ℕ) → same_eight a a i ≡ true
eight_self a i =
    rw (self (get_or a i 0), self (get_or a (i + 1) 0), self (get_or a (i + 2) 0), self (get_or a (i + 3) 0), self (get_or a (i + 4) 0), self (get_or a (i + 5) 0), self (get_or a (i + 6) 0), self (get_or a (i + 7) 0)) refl
  where
    self : (x : ℕ) → eqb x x ≡ true
    self x = eq-eqb x x refl

module _ (a b : List ℕ) where
  pub long_lengths : (length a ≡ length b → ⊥) → false ≡ same_text a b
  long_lengths = same_lengths a b

  pub kept_none : length a ≡ length b → Kept a b 0
  kept_none l = record { lengths = l; inside = omega arith; same = refl }

  kept_one : (i : ℕ) → i < length a → Kept a b i → eqb (get_or a i 0) (get_or b i 0) ≡ true → Kept a b (i + 1)
  kept_one i h w e =
      let k : i < length b = omega (arith, w.lengths) in
      record { lengths = w.lengths; inside = omega arith; same = w.same ∙ rw (step a i h, step b i k, e) refl }

  module _ (i : ℕ) (w : Kept a b i) where
    module _ (l : 8 ≤ length a - i) where
      pub eight_first : i + 8 ≤ length a
      eight_first = omega arith

      pub eight_second : i + 8 ≤ length b
      eight_second = omega (arith, w.lengths)

      one_on : (k : ℕ) → k < 8 → Kept a b (i + k) → eqb (get_or a (i + k) 0) (get_or b (i + k) 0) ≡ true → Kept a b (i + (k + 1))
      one_on k h v t = let e : i + k + 1 ≡ i + (k + 1) = omega arith in subst (Kept a b) e (kept_one (i + k) (omega arith) v t)

      module _ (t : Bool) (e : t ≡ same_eight a b i) where
        pub eight_on : not t ≡ false → Kept a b (i + 8)
        eight_on q =
            let t₇ = both _ _ (told t _ e q) in
            let t₆ = both _ _ t₇.0 in
            let t₅ = both _ _ t₆.0 in
            let t₄ = both _ _ t₅.0 in
            let t₃ = both _ _ t₄.0 in
            let t₂ = both _ _ t₃.0 in
            let t₁ = both _ _ t₂.0 in
            let w₁ = kept_one i (omega arith) w t₁.0 in
            let w₂ = one_on 1 (omega arith) w₁ t₁.1 in
            let w₃ = one_on 2 (omega arith) w₂ t₂.1 in
            let w₄ = one_on 3 (omega arith) w₃ t₃.1 in
            let w₅ = one_on 4 (omega arith) w₄ t₄.1 in
            let w₆ = one_on 5 (omega arith) w₅ t₅.1 in
            let w₇ = one_on 6 (omega arith) w₆ t₆.1 in
            one_on 7 (omega arith) w₇ t₇.1

        pub eight_off : not t ≡ true → false ≡ same_text a b
        eight_off q = same_not a b (λ o. clash (sym (eight_self a i) ∙ ap (λ (u : List ℕ). same_eight a u i) o ∙ sym e ∙ not-true t q))

    pub kept_rest : (s u : List ℕ) → s ≡ drop i a → u ≡ drop i b → (r : Bool) → r ≡ same_text s u → r ≡ same_text a b
    kept_rest s u es eu r e = e ∙ ap₂ same_text es eu ∙ sym w.same

pub ruleset eight_laws = (long_lengths, kept_none, eight_first, eight_second, eight_on, eight_off, kept_rest)
