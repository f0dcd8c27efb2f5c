-- The value of a parameter, up to the quote that ends it.
use Rattle.std.specs.Prelude.{if◌then◌else◌}
use Prim.Native.Nat.{ℕ, zero, suc, ◌+◌, ◌-◌, ◌≤◌, ◌<◌}
use mathlib.Core.Path.{◌≡◌, refl, sym, ap, ◌∙◌}
use mathlib.Core.Bool.{Bool, true, false, not, ◌&&◌}
use mathlib.Core.List.{List, [], ◌∷◌}
use native.Mathlib.Omega.{arith}
use native.Mathlib.Numerals.{add-one}
use lib.Dec.{eqb}
use lib.ListN.{length, get_or, drop}
use borrow.Author.Tests.{eqb-true, eq-eqb, ne_eqb}
use Rattle.base.specs.Choose.{is_at}
use Rattle.base.proofs.Tests.{by_test, clash}
use Rattle.base.proofs.Parts.{step, ended}
use Rattle.structured_data.specs.Param.{quoted_len}

-- The value
pub quoted_le : (taken : Bool) (s : List ℕ) → quoted_len taken s ≤ length s
unfolding quoted_len
quoted_le taken [] = omega arith
quoted_le true (b ∷ s) = let l = quoted_le false s in omega arith
quoted_le false (b ∷ s) =
    let l = quoted_le (eqb b 92) s in
    by_test (λ t. (if t then 0 else suc (quoted_len (eqb b 92) s)) ≤ suc (length s)) (eqb b 34) (λ e. omega arith) (λ e. omega arith)

quoted_none : (taken : Bool) → quoted_len taken [] ≡ 0
unfolding quoted_len
quoted_none taken = refl

quoted_ends : (taken : Bool) (b : ℕ) (s : List ℕ) → (not taken && eqb b 34) ≡ true → quoted_len taken (b ∷ s) ≡ 0
unfolding quoted_len
quoted_ends true b s h = clash (sym h)
quoted_ends false b s h = rw h

quoted_more : (taken : Bool) (b : ℕ) (s : List ℕ) → (not taken && eqb b 34) ≡ false
    → quoted_len taken (b ∷ s) ≡ suc (quoted_len (not taken && eqb b 92) s)
unfolding quoted_len
quoted_more true b s h = refl
quoted_more false b s h = rw h

-- `i` bytes are passed, and no backslash takes the next
pub record Quoted (s : List ℕ) (i : ℕ) : Type 0 where
  pub inside : i ≤ length s
  pub left : quoted_len false s ≡ i + quoted_len false (drop i s)

pub quoted_start : (s : List ℕ) → Quoted s 0
quoted_start s = record { inside = omega arith; left = omega arith }

module _ (s : List ℕ) (i : ℕ) (inv : Quoted s i) where
  pub quoted_out : length s ≤ i → i ≡ quoted_len false s
  quoted_out h = let z : quoted_len false (drop i s) ≡ 0 = ap (quoted_len false) (ended s i h) ∙ quoted_none false in omega (arith, inv.left)

  module _ (h : i < length s) where
    pub quoted_off : get_or s i 0 ≡ 34 → i ≡ quoted_len false s
    quoted_off q =
        let z : quoted_len false (drop i s) ≡ 0 = ap (quoted_len false) (step s i h) ∙ quoted_ends false _ _ (eq-eqb _ _ q) in
        omega (arith, inv.left)

    one_on : (t : Bool) → (get_or s i 0 ≡ 34 → ⊥) → eqb (get_or s i 0) 92 ≡ t → quoted_len false (drop i s) ≡ suc (quoted_len t (drop (i + 1) s))
    one_on t q e =
        ap (quoted_len false) (step s i h) ∙ quoted_more false _ _ (ne_eqb _ _ q) ∙ ap (λ (b : Bool). suc (quoted_len b (drop (i + 1) s))) e

    pub quoted_on : (get_or s i 0 ≡ 34 → ⊥) → (get_or s i 0 ≡ 92 → ⊥) → Quoted s (i + 1)
    quoted_on q e = record { inside = omega arith; left = omega (arith, inv.left, one_on false q (ne_eqb _ _ e)) }

    module _ (e : get_or s i 0 ≡ 92) where
      escaped : quoted_len false (drop i s) ≡ suc (quoted_len true (drop (i + 1) s))
      escaped = one_on true (λ q. omega arith) (eq-eqb _ _ e)

      -- a backslash at the end takes nothing
      pub quoted_last : length s - i < 2 → length s ≡ quoted_len false s
      quoted_last l =
          let z : quoted_len true (drop (i + 1) s) ≡ 0 = ap (quoted_len true) (ended s (i + 1) (omega arith)) ∙ quoted_none true in
          omega (arith, inv.left, escaped)

      pub quoted_pair : 2 ≤ length s - i → Quoted s (i + 2)
      quoted_pair l =
          let p : i + 1 + 1 ≡ i + 2 = omega arith in
          let z : quoted_len true (drop (i + 1) s) ≡ suc (quoted_len false (drop (i + 2) s)) =
          ap (quoted_len true) (step s (i + 1) (omega arith)) ∙ quoted_more true _ _ refl ∙ ap (λ (k : ℕ). suc (quoted_len false (drop k s))) p in
          record { inside = omega arith; left = omega (arith, inv.left, escaped) }

pub ruleset quoted_laws = (quoted_start, quoted_out, quoted_off, quoted_on, quoted_last, quoted_pair)

-- behind a `]` of a value the walk to its end starts anew
quoted_anew : (taken : Bool) (s : List ℕ) (k : ℕ) → k < quoted_len taken s → is_at s k 93 ≡ true
    → quoted_len taken s ≡ suc k + quoted_len false (drop (suc k) s)
unfolding quoted_len
quoted_anew taken [] k h e = absurd (omega arith)
quoted_anew true (b ∷ s) zero h e = omega arith
quoted_anew true (b ∷ s) (suc k) h e = let r = quoted_anew false s k (omega arith) e in omega arith
quoted_anew false (b ∷ s) zero h e = rw (eqb-true b 93 e) (omega arith)
quoted_anew false (b ∷ s) (suc k) h e =
    by_test (λ _. quoted_len false (b ∷ s) ≡ suc (suc k) + quoted_len false (drop (suc k) s)) (eqb b 34)
    (λ q. absurd (omega (arith, quoted_ends false b s q)))
    (λ q.
    let m = quoted_more false b s q in
    let r = quoted_anew (eqb b 92) s k (omega arith) e in
    omega arith)

pub quoted_behind : (s : List ℕ) (k : ℕ) → k < quoted_len false s → is_at s k 93 ≡ true → quoted_len false s ≡ k + 1 + quoted_len false (drop (k + 1) s)
quoted_behind s k h e = rw (add-one k) (quoted_anew false s k h e)
