-- Texts that stand in a line, piece by piece.
use Prim.Native.Nat.{ℕ, suc, ◌+◌, ◌-◌, ◌/◌, ◌%◌, ◌≤◌, ◌<◌}
use mathlib.Core.Path.{◌≡◌, refl, sym, ap, ◌∙◌}
use mathlib.Core.Bool.{Bool, true, false, ◌&&◌, and-true, and-false}
use mathlib.Core.List.{List, [], ◌∷◌, ◌++◌, append_assoc}
use native.Mathlib.Omega.{arith}
use lib.Dec.{eqb}
use lib.ListN.{length, get_or, take, drop}
use lib.Seq.{drop-drop}
use borrow.Author.Tests.{eq-eqb, ne_eqb}
use Rattle.base.specs.Texts.{same_text}
use Rattle.base.proofs.Parts.{step}
use Rattle.output.specs.Numerals.{fixed}
use Rattle.output.proofs.Numerals.{length_fixed}
use Rattle.claims.specs.Holds.{stands_at}

and_assoc : (a b c : Bool) → (a && (b && c)) ≡ (a && b && c)
and_assoc true b c = refl
and_assoc false b c = refl

same_append : (a b s : List ℕ) → same_text (take (length (a ++ b)) s) (a ++ b) ≡ (same_text (take (length a) s) a && same_text (take (length b) (drop (length a) s)) b)
same_append [] b s = refl
same_append (x ∷ a) b [] = refl
same_append (x ∷ a) b (y ∷ s) = ap (λ (t : Bool). eqb y x && t) (same_append a b s) ∙ and_assoc (eqb y x) _ _

-- a byte
pub stands_byte : (line : List ℕ) (at b : ℕ) → at < length line → stands_at line at (b ∷ []) ≡ eqb (get_or line at 0) b
stands_byte line at b h = ap (λ (t : List ℕ). same_text (take 1 t) (b ∷ [])) (step line at h) ∙ and-true (eqb (get_or line at 0) b)

module _ (line : List ℕ) (at : ℕ) where
  -- one text behind another, which starts at j
  pub stands_then : (a b : List ℕ) (j : ℕ) → at + length a ≡ j → stands_at line at (a ++ b) ≡ (stands_at line at a && stands_at line j b)
  stands_then a b j e =
      same_append a b (drop at line)
      ∙ ap (λ (l : List ℕ). stands_at line at a && same_text (take (length b) l) b) (drop-drop (length a) at line ∙ ap (λ (k : ℕ). drop k line) e)

  -- a byte and a text
  pub stands_cons : (b : ℕ) (t : List ℕ) → at < length line → stands_at line at (b ∷ t) ≡ (eqb (get_or line at 0) b && stands_at line (at + 1) t)
  stands_cons b t h = ap (λ (l : List ℕ). same_text (take (suc (length t)) l) (b ∷ t)) (step line at h)

  -- ---- digits, from the back

  module _ (k n left rest : ℕ) (inv : stands_at line at (fixed k n) ≡ stands_at line at (fixed left rest)) where
    module _ (h : 0 < left) (l : left ≤ k) (room : at + k ≤ length line) where
      digit_last : stands_at line at (fixed k n) ≡ (stands_at line at (fixed (left - 1) (rest / 10)) && eqb (get_or line (at + (left - 1)) 0) (48 + rest % 10))
      unfolding fixed
      digit_last =
          let e : left ≡ suc (left - 1) = omega arith in
          inv ∙ ap (λ (j : ℕ). stands_at line at (fixed j rest)) e
          ∙ stands_then (fixed (left - 1) (rest / 10)) ((48 + rest % 10) ∷ []) (at + (left - 1)) (ap (λ (j : ℕ). at + j) (length_fixed (left - 1) (rest / 10)))
          ∙ ap (λ (x : Bool). stands_at line at (fixed (left - 1) (rest / 10)) && x) (stands_byte line (at + (left - 1)) (48 + rest % 10) (omega arith))

      pub digit_off : (get_or line (at + (left - 1)) 0 ≡ 48 + rest % 10 → ⊥) → false ≡ stands_at line at (fixed k n)
      digit_off q = sym (digit_last ∙ rw (ne_eqb _ _ q) (and-false (stands_at line at (fixed (left - 1) (rest / 10)))))

      pub digit_on_lem : get_or line (at + (left - 1)) 0 ≡ 48 + rest % 10 → stands_at line at (fixed k n) ≡ stands_at line at (fixed (left - 1) (rest / 10))
      digit_on_lem q = digit_last ∙ rw (eq-eqb _ _ q) (and-true (stands_at line at (fixed (left - 1) (rest / 10))))

    pub digits_end : left ≤ 0 → true ≡ stands_at line at (fixed k n)
    unfolding fixed
    digits_end h = let e : left ≡ 0 = omega arith in sym (inv ∙ ap (λ (j : ℕ). stands_at line at (fixed j rest)) e)

pub ruleset digit_laws = (digit_off, digit_on_lem, digits_end)

module _ (line : List ℕ) (at mark k n : ℕ) (h : at + (1 + k) ≤ length line) where
  pub mark_off : (get_or line at 0 ≡ mark → ⊥) → false ≡ stands_at line at (mark ∷ fixed k n)
  mark_off q = sym (stands_cons line at mark (fixed k n) (omega arith) ∙ rw (ne_eqb _ _ q))

  pub mark_on : (r : Bool) → r ≡ stands_at line (at + 1) (fixed k n) → get_or line at 0 ≡ mark → r ≡ stands_at line at (mark ∷ fixed k n)
  mark_on r e q = e ∙ sym (stands_cons line at mark (fixed k n) (omega arith) ∙ rw (eq-eqb _ _ q))

pub ruleset mark_laws = (mark_off, mark_on)

-- two pieces and three, as they are told
module _ (line : List ℕ) (at : ℕ) (a b : List ℕ) (j : ℕ) (e : at + length a ≡ j) (x y : Bool) (p : x ≡ stands_at line at a) where
  pub stands_two : y ≡ stands_at line j b → (x && y) ≡ stands_at line at (a ++ b)
  stands_two q = rw (p, q) (sym (stands_then line at a b j e))

  pub stands_three : (c : List ℕ) (k : ℕ) → j + length b ≡ k → (z : Bool) → y ≡ stands_at line j b → z ≡ stands_at line k c → (x && y && z) ≡ stands_at line at (a ++ b ++ c)
  stands_three c k f z q g =
      rw (p, q, g)
      (sym (ap (stands_at line at) (append_assoc a b c) ∙ stands_then line at a (b ++ c) j e
      ∙ ap (λ (t : Bool). stands_at line at a && t) (stands_then line j b c k f) ∙ and_assoc (stands_at line at a) _ _))
