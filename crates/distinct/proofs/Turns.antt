-- One turn of a walk.
use Prim.Native.Nat.{ℕ, ◌/◌, ◌%◌, ◌≤◌}
use mathlib.Core.Path.{◌≡◌, refl, sym, ◌∙◌}
use mathlib.Core.Bool.{false}
use mathlib.Core.List.{List}
use native.Mathlib.Omega.{arith}
use lib.Dec.{eqb}
use lib.ListN.{get_or}
use borrow.Author.Tests.{eqb-false}
use Rattle.base.specs.Texts.{same_text}
use Rattle.base.proofs.Tests.{by_if}
use Rattle.base.proofs.Texts.{same_bytes}
use Rattle.distinct.specs.Tree.{bit_of, side_of, Sided}

-- whether it is the same id: not where it went by a bit, and not where a byte is another
module _ (own other : List ℕ) where
  pub same_side : (side : ℕ) → Sided own other side → (side ≡ 2 → ⊥) → false ≡ same_text own other
  same_side side w = w.bit_differs

  pub same_byte : (p x y : ℕ) → x ≡ get_or own p 0 → y ≡ get_or other p 0 → (x ≡ y → ⊥) → false ≡ same_text own other
  same_byte p x y ex ey h = same_bytes own other p (λ e. h (ex ∙ e ∙ sym ey))

pub ruleset same_laws = (same_side, same_byte)

module _ (own other : List ℕ) (d : ℕ) where
  by_side : (P : ℕ → Type 0) → P 2 → ((get_or own (d / 8) 0 ≡ get_or other (d / 8) 0 → ⊥) → P (bit_of (get_or own (d / 8) 0) (d % 8))) → P (side_of own other d)
  by_side P p q = by_if P (eqb (get_or own (d / 8) 0) (get_or other (d / 8) 0)) 2 (bit_of (get_or own (d / 8) 0) (d % 8)) (λ e. p) (λ e. q (eqb-false _ _ e))

  pub side_few : side_of own other d ≤ 2
  side_few = by_side (λ n. n ≤ 2) (omega arith) (λ h. omega arith)

  pub sided : (side : ℕ) → side ≡ side_of own other d → Sided own other side
  sided side e = record {
    bit_differs = λ h. by_side (λ n. (n ≡ 2 → ⊥) → false ≡ same_text own other) (λ z. absurd (z refl)) (λ b z. same_bytes own other (d / 8) b) (λ z. h (e ∙ z));
  }
