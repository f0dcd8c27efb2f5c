-- Each id compared with all before it; and what the number of ids before the first repeat says.
use Prim.Native.Nat.{ℕ, ◌≤◌, ◌<◌}
use mathlib.Core.Path.{◌≡◌, refl, sym, ap, ◌∙◌}
use mathlib.Core.Bool.{Bool, true, false}
use mathlib.Core.List.{List, []}
use Rattle.std.specs.Prelude.{MatchBool}
use Rattle.std.specs.List.{range_with_len, HoldsAt, AllWithin}
use Rattle.std.proofs.lemmas.List.FromFn.{length-range_with_len, get_or-range_with_len}
use native.Mathlib.Decide.{dec_le}
use native.Mathlib.Omega.{arith}
use lib.Dec.{eqb}
use lib.ListN.{length, get_or}
use borrow.Author.Tests.{eq-eqb, ne_eqb}
use Rattle.base.specs.Texts.{same_text, Distinct, all_different}
use Rattle.base.proofs.Tests.{by_test, clash}
use Rattle.base.proofs.Texts.{same_is, same_self, different_sound, different_complete}
use Rattle.distinct.specs.Distinct.{FirstRepeat}
use Rattle.distinct.specs.Tree.{Occurs}

-- ---- one id and those before it, and all ids, one after the other

-- what `any` says of the numbers below i
pub of_any : (id : ℕ → List ℕ) (i : ℕ) (own : List ℕ) → own ≡ id i → (r : Bool) → MatchBool r ((k : ℕ) × (k < length (range_with_len 0 i)) × HoldsAt (λ m. same_text own (id m) ≡ true) (range_with_len 0 i) k) (AllWithin (λ m. same_text own (id m) ≡ false) (range_with_len 0 i) 0 (length (range_with_len 0 i))) → Occurs id i r
of_any id i own o true w =
    let l : w.0 < i = omega (arith, w.1, length-range_with_len 0 i) in
    let e : get_or (range_with_len 0 i) w.0 0 ≡ w.0 = get_or-range_with_len 0 i w.0 0 l ∙ omega arith in
    record { earlier = w.0; is_earlier = l; is_same = sym (same_is own (id w.0) (rw e at (w.2 0))) ∙ o }
of_any id i own o false w = λ m l e.
    let q : get_or (range_with_len 0 i) m 0 ≡ m = get_or-range_with_len 0 i m 0 l ∙ omega arith in
    let n : same_text own (id m) ≡ false = rw q at (w m 0 (omega arith) (omega (arith, length-range_with_len 0 i))) in
    clash (sym (same_self own) ∙ ap (same_text own) (o ∙ sym e) ∙ n)

-- ---- what the answer says

module _ (id : ℕ → List ℕ) (n k : ℕ) (f : FirstRepeat id n k) where
  -- of the ids as a list
  pub first_tells : (ts : List (List ℕ)) → length ts ≡ n → ((m : ℕ) → m < n → id m ≡ get_or ts m []) → eqb k n ≡ all_different ts
  first_tells ts e same = go (dec_le n k)
    where
      all_differ : n ≤ k → Distinct ts
      all_differ l a b p q o = f.differ a b p (omega arith) (same a (omega arith) ∙ o ∙ sym (same b (omega arith)))

      some_same : k < n → all_different ts ≡ false
      some_same l =
          let r = f.repeated l in
          by_test (λ t. all_different ts ≡ t → t ≡ false) (all_different ts)
          (λ t q. absurd (different_sound ts q r.earlier k r.is_earlier (omega arith)
          (sym (same r.earlier (omega (arith, r.is_earlier))) ∙ r.is_same ∙ same k l))) (λ t q. refl) refl

      go : Dec (n ≤ k) → eqb k n ≡ all_different ts
      go (yes l) = eq-eqb k n (omega (arith, f.inside)) ∙ sym (different_complete ts (all_differ l))
      go (no l) = ne_eqb k n (λ o. omega arith) ∙ sym (some_same (omega arith))

  later_not : (m : ℕ) → FirstRepeat id n m → k < m → ⊥
  later_not m g h =
      let r = f.repeated (omega (arith, g.inside)) in
      g.differ r.earlier k r.is_earlier h r.is_same

-- there is one answer
pub first_one : (id : ℕ → List ℕ) (n k m : ℕ) → FirstRepeat id n k → FirstRepeat id n m → k ≡ m
first_one id n k m f g = go (dec_le k m) (dec_le m k)
  where
    go : Dec (k ≤ m) → Dec (m ≤ k) → k ≡ m
    go (yes p) (yes q) = omega arith
    go (yes p) (no q) = absurd (later_not id n k f m g (omega arith))
    go (no p) q = absurd (later_not id n m g k f (omega arith))
