-- The reading that the variant asks for, and its rows.
use Rattle.std.specs.Prelude.{Option, Some, None}
use Prim.Native.Nat.{ℕ}
use mathlib.Core.Path.{◌≡◌, sym, ◌∙◌}
use mathlib.Core.List.{List}
use native.Mathlib.Omega.{arith}
use lib.Dec.{eqb}
use lib.IntN.{ℤ}
use borrow.Author.Tests.{ne_eqb}
use mir.Syntax.{w32}
use mir.Val.{SFits, to_z, of_z}
use mir.ValLaws.{to_z-of_z}
use Rattle.base.proofs.Tests.{by_if}
use Rattle.record.specs.declared.Record.{Record}
use Rattle.structured_data.specs.declared.Rules.{Rules}
use Rattle.draft.specs.Outcome.{Outcome}
use Rattle.draft.specs.Outcome.Outcome.{no_reading, is_reading}
use Rattle.draft.specs.Drafts.{draft_of}
use Rattle.draft.specs.declared.Draft.{Draft}
use Rattle.draft.proofs.Outcomes.{no_draft, RowsIn}
use Rattle.rfc3164.specs.Rfc3164.{rfc3164}
use Rattle.rfc3164.proofs.Lines as by-3164
use Rattle.rfc5424.specs.Rfc5424.{rfc5424}
use Rattle.rfc5424.proofs.Lines as by-5424
use Rattle.loose.specs.Loose.{or_else, by_variant}

module _ (s : List ℕ) (start variant year : ℕ) (o : ℤ) (f : SFits w32 o) where
  module _ (d : Option Draft) (h : d ≡ draft_of (rfc3164 year (to_z w32 (of_z w32 o)) s start)) where
    here : d ≡ draft_of (rfc3164 year o s start)
    here = rw (to_z-of_z w32 o f) at h

    pub variant_3164 : variant ≡ 1 → d ≡ draft_of (by_variant variant year o s start)
    unfolding by_variant
    variant_3164 z = rw z here

    pub variant_second : variant ≡ 0 → (g : Option Draft) → g ≡ draft_of (rfc5424 s start) → g ≡ None → d ≡ draft_of (by_variant variant year o s start)
    unfolding by_variant
    variant_second z g e q = rw (z, no_draft (rfc5424 s start) (sym q ∙ e)) here

  module _ (z : variant ≡ 1 → ⊥) (g : Option Draft) (e : g ≡ draft_of (rfc5424 s start)) where
    pub variant_first : (rules : Rules) (r : Record) (at n m : ℕ) → g ≡ Some (record { rules = rules; read = r; at = at; elements = n; params = m }) → g ≡ draft_of (by_variant variant year o s start)
    unfolding by_variant
    variant_first rules r at n m q =
        rw (ne_eqb variant 1 z)
        (by_if (λ (x : Outcome). g ≡ draft_of x) (eqb variant 0) _ _ (λ t. first (rfc5424 s start) e) (λ t. e))
      where
        first : (x : Outcome) → g ≡ draft_of x → g ≡ draft_of (or_else x (rfc3164 year o s start))
        first no_reading c = let k : ◌≡◌ {A = ℕ} 0 1 = cc in absurd (omega arith)
        first (is_reading y b rows) c = c

    pub variant_5424 : (variant ≡ 0 → ⊥) → g ≡ draft_of (by_variant variant year o s start)
    unfolding by_variant
    variant_5424 y = rw (ne_eqb variant 1 z, ne_eqb variant 0 y) e

pub ruleset variant_laws = (variant_3164, variant_second, variant_first, variant_5424)

-- what holds of the readings by both protocols holds of a variant's
module _ (P : Outcome → Type 0) where
  first_of : (x y : Outcome) → P x → P y → P (or_else x y)
  first_of no_reading y a b = b
  first_of (is_reading r at rows) y a b = a

  pub of_variant : (variant year : ℕ) (offset : ℤ) (s : List ℕ) (start : ℕ) → P (rfc5424 s start) → P (rfc3164 year offset s start)
      → P (by_variant variant year offset s start)
  unfolding by_variant
  of_variant variant year offset s start a b =
      by_if P (eqb variant 0) _ _ (λ q. first_of (rfc5424 s start) (rfc3164 year offset s start) a b)
      (λ q. by_if P (eqb variant 1) _ _ (λ q. b) (λ q. a))

pub variant_rows : (variant year : ℕ) (o : ℤ) (s : List ℕ) (start : ℕ) → RowsIn s (by_variant variant year o s start)
variant_rows variant year o s start = of_variant (RowsIn s) variant year o s start (by-5424.line_rows s start) (by-3164.line_rows year o s start)
