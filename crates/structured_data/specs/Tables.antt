-- For private contracts alone: the rows of structured data as the code keeps them: counted, and then stored into tables.
use Rattle.std.specs.Prelude.{ℕ, ◌≤◌, ◌≡◌, List, length, Option, Some, None}
use Rattle.base.specs.Fills.{filled}
use Rattle.structured_data.specs.Data.{Data, data_from, rows_or}
use Rattle.structured_data.specs.Data.Data.{no_data, is_data}
use Rattle.structured_data.specs.declared.Rules.{Rules}
use Rattle.structured_data.specs.declared.Counts.{Counts}

-- their counts, and the position after them
abbrev pub counts_of : Data → Option Counts
counts_of no_data = None
counts_of (is_data rows) = Some (record { elements = length rows.elements; params = length rows.params; next = rows.next })

-- tables with room for the rows, which are counted
pub record Room (rules : Rules) (s : List ℕ) (at e p : ℕ) (elements params : List (List ℕ)) : Type 0 where
  pub elements_are : e ≡ length (rows_or at (data_from rules s at)).elements
  pub params_are : p ≡ length (rows_or at (data_from rules s at)).params
  pub elements_fit_lem : e ≤ length elements
  pub params_fit_lem : p ≤ length params

-- tables that held e₀ and p₀, filled with the rows
pub record Fills (rules : Rules) (s : List ℕ) (at : ℕ) (e₀ p₀ e₁ p₁ : List (List ℕ)) : Type 0 where
  pub elements : e₁ ≡ filled (rows_or at (data_from rules s at)).elements e₀
  pub params : p₁ ≡ filled (rows_or at (data_from rules s at)).params p₀
