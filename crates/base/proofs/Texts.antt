-- Texts compared: what the tests say, the walk that compares, and what is lent of a line.
use Rattle.std.specs.Prelude.{if◌then◌else◌}
use Prim.Native.Nat.{ℕ, zero, suc, ◌+◌, ◌-◌, ◌<◌}
use mathlib.Core.Path.{◌≡◌, refl, sym, ap, ◌∙◌}
use mathlib.Core.Bool.{Bool, true, false, not, ◌||◌}
use mathlib.Core.List.{List, [], ◌∷◌}
use Rattle.std.proofs.Math.Numerals.{one-add}
use native.Mathlib.Omega.{arith}
use lib.Dec.{eqb}
use lib.ListN.{length, get_or, take, drop}
use borrow.Author.Tests.{eq-eqb, eqb-true, not-true}
use Rattle.std.specs.List.{take_while, zip, prefix_len}
use Rattle.std.specs.Prelude.{cond}
use Rattle.base.specs.Texts.{text_at, same_text, common_len, Distinct, is_in, all_different}
use Rattle.base.proofs.Tests.{both, clash, by_test}

-- ---- the same text

pub same_is : (a b : List ℕ) → same_text a b ≡ true → a ≡ b
same_is [] [] h = refl
same_is [] (y ∷ b) h = clash (sym h)
same_is (x ∷ a) [] h = clash (sym h)
same_is (x ∷ a) (y ∷ b) h =
    let (p, q) = both _ _ h in
    let e : x ≡ y = eqb-true x y p in
    let f : a ≡ b = same_is a b q in
    cc

pub same_self : (a : List ℕ) → same_text a a ≡ true
same_self [] = refl
same_self (x ∷ a) = rw (eq-eqb x x refl) (same_self a)

pub same_not : (a b : List ℕ) → (a ≡ b → ⊥) → false ≡ same_text a b
same_not a b h = by_test (λ t. same_text a b ≡ t → false ≡ t) (same_text a b) (λ e q. absurd (h (same_is a b q))) (λ e q. refl) refl

pub same_lengths : (a b : List ℕ) → (length a ≡ length b → ⊥) → false ≡ same_text a b
same_lengths a b h = same_not a b (λ e. h (ap length e))

pub same_bytes : (a b : List ℕ) (p : ℕ) → (get_or a p 0 ≡ get_or b p 0 → ⊥) → false ≡ same_text a b
same_bytes a b p h = same_not a b (λ e. h (ap (λ (u : List ℕ). get_or u p 0) e))

-- how many pairs in front are of one byte twice
pub common_is : (a b : List ℕ) → length (take_while (λ (p : ℕ × ℕ). eqb p.0 p.1) (zip a b)) ≡ common_len a b
common_is [] t = refl
common_is (a ∷ s) [] = refl
common_is (a ∷ s) (b ∷ t) =
    by_test (λ v. length (take (cond v (1 + prefix_len (λ (p : ℕ × ℕ). eqb p.0 p.1) (zip s t)) 0) ((a, b) ∷ zip s t)) ≡ (if v then suc (common_len s t) else 0)) (eqb a b)
    (λ e. simp one-add (ap suc (common_is s t))) (λ e. refl)

-- ---- pairwise different texts

neither : (a b : Bool) → (a || b) ≡ false → (a ≡ false) × (b ≡ false)
neither true b h = clash h
neither false b h = (refl, h)

in_not : (t : List ℕ) (ts : List (List ℕ)) → is_in t ts ≡ false → (k : ℕ) → k < length ts → t ≡ get_or ts k [] → ⊥
in_not t [] h k l e = omega arith
in_not t (u ∷ ts) h zero l e = clash (sym (same_self t) ∙ ap (same_text t) e ∙ (neither (same_text t u) (is_in t ts) h).0)
in_not t (u ∷ ts) h (suc k) l e = in_not t ts (neither (same_text t u) (is_in t ts) h).1 k (omega arith) e

not_in : (t : List ℕ) (ts : List (List ℕ)) → ((k : ℕ) → k < length ts → t ≡ get_or ts k [] → ⊥) → is_in t ts ≡ false
not_in t [] h = refl
not_in t (u ∷ ts) h = rw (← same_not t u (h 0 (omega arith))) (not_in t ts (λ k l. h (suc k) (omega arith)))

pub different_sound : (ts : List (List ℕ)) → all_different ts ≡ true → Distinct ts
different_sound [] h a b p q e = omega arith
different_sound (t ∷ ts) h a zero p q e = omega arith
different_sound (t ∷ ts) h zero (suc b) p q e =
    let (m, n) = both (not (is_in t ts)) (all_different ts) h in
    in_not t ts (not-true (is_in t ts) m) b (omega arith) e
different_sound (t ∷ ts) h (suc a) (suc b) p q e =
    let (m, n) = both (not (is_in t ts)) (all_different ts) h in
    different_sound ts n a b (omega arith) (omega arith) e

pub different_complete : (ts : List (List ℕ)) → Distinct ts → all_different ts ≡ true
different_complete [] d = refl
different_complete (t ∷ ts) d =
    rw (not_in t ts (λ k l. d 0 (suc k) (omega arith) (omega arith)), different_complete ts (λ a b p q. d (suc a) (suc b) (omega arith) (omega arith)))

-- ---- a part of a line

-- what `&line[start..end]` lends
pub part_text_lem : (line : List ℕ) (start len : ℕ) → take (start + len - start) (drop start line) ≡ text_at line start len
part_text_lem line start len = let n : start + len - start ≡ len = omega arith in rw n
