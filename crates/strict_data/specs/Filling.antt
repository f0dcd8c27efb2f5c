-- For private contracts alone: what the second pass is given and what it leaves.
use Rattle.std.specs.Prelude.{ℕ, ◌≤◌, ◌≡◌, List, [], length, drop}
use Rattle.grammar.specs.Line.{Element}
use Rattle.grammar.specs.Parse.{Parsed, structured}
use Rattle.grammar.specs.Parse.Parsed.{failed, found}
use Rattle.grammar.specs.Reading.{param_count}

abbrev pub elements_of : Parsed (List Element) → List Element
elements_of failed = []
elements_of (found es n) = es

-- the elements of the structured data that a line has at a place
abbrev pub elements_at : List ℕ → ℕ → List Element
elements_at line at = elements_of (structured (drop at line))

-- At the place stands structured data of `len` bytes, and both tables take its rows.
pub record Fillable (line : List ℕ) (at len : ℕ) (elements params : List (List ℕ)) : Type 0 where
  pub data_found : structured (drop at line) ≡ found (elements_at line at) len
  pub elements_room : length (elements_at line at) ≤ length elements
  pub params_room : param_count (elements_at line at) ≤ length params
