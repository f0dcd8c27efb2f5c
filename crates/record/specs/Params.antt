-- The entries of the parameter table as rows of numbers, which is how the definitions speak of them.
use Rattle.std.specs.Prelude.{ℕ, List, [], ◌∷◌}
use Rattle.record.specs.declared.Param.{Param}

-- the five numbers of an entry, in order
abbrev pub row_of : Param → List ℕ
row_of p = p.element ∷ p.name_start ∷ p.name_len ∷ p.value_start ∷ p.value_len ∷ []

-- the rows of a table
unfoldable pub rows : List Param → List (List ℕ)
rows [] = []
rows (p ∷ ps) = row_of p ∷ rows ps

-- an entry of no place
abbrev pub blank : Param
blank = record { element = 0; name_start = 0; name_len = 0; value_start = 0; value_len = 0 }
