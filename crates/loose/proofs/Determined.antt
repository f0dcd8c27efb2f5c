-- The contract of the reader leaves one answer and one pair of tables.
use Rattle.std.specs.Prelude.{Result}
use Prim.Native.Nat.{ℕ}
use mathlib.Core.Path.{◌≡◌, sym, ap, ◌∙◌}
use mathlib.Core.List.{List}
use lib.IntN.{ℤ}
use Rattle.record.specs.declared.Reading.{Reading}
use Rattle.loose.specs.Loose.{outcome_of, table_after, rows_of, Reads}
use Rattle.record.specs.declared.Refusal.{Refusal}

module _ (line : List ℕ) (variant year : ℕ) (offset : ℤ) (e₀ p₀ : List (List ℕ)) where
  pub one_reading : (r s : Result Reading Refusal) (e₁ e₂ p₁ p₂ : List (List ℕ))
      → Reads line variant year offset e₀ p₀ r e₁ p₁ → Reads line variant year offset e₀ p₀ s e₂ p₂
      → (r ≡ s) × (e₁ ≡ e₂) × (p₁ ≡ p₂)
  one_reading r s e₁ e₂ p₁ p₂ h k =
      let same : r ≡ s = h.answer ∙ sym k.answer in (
        same,
        h.elements ∙ ap (λ (x : Result Reading Refusal). table_after x (rows_of (outcome_of line variant year offset)).elements e₀) same ∙ sym k.elements,
        h.params ∙ ap (λ (x : Result Reading Refusal). table_after x (rows_of (outcome_of line variant year offset)).params p₀) same ∙ sym k.params,
      )
