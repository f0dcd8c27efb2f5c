-- Outcomes by their drafts, and by their rows.
use Rattle.std.specs.Prelude.{None}
use Prim.Native.Nat.{ℕ}
use mathlib.Core.Path.{◌≡◌, refl}
use mathlib.Core.List.{List}
use native.Mathlib.Omega.{arith}
use Rattle.structured_data.specs.Data.{data_from, rows_or}
use Rattle.draft.specs.Outcome.{Outcome}
use Rattle.draft.specs.Outcome.Outcome.{no_reading, is_reading}
use Rattle.draft.specs.Drafts.{rules_by, draft_of}

pub no_draft : (o : Outcome) → None ≡ draft_of o → o ≡ no_reading
no_draft no_reading e = refl
no_draft (is_reading r at rows) e = let z : ◌≡◌ {A = ℕ} 0 1 = cc in absurd (omega arith)

-- the rows are those of the structured data of the text `s`, read by the outcome's own rules
abbrev pub RowsIn : List ℕ → Outcome → Type 0
RowsIn s no_reading = Unit {0}
RowsIn s (is_reading r at rows) = rows ≡ rows_or at (data_from (rules_by r.protocol) s at)
