-- What the programs write.
use Rattle.std.specs.Prelude.{ℕ, List, [], ◌∷◌, ◌++◌}
use Rattle.output.specs.Numerals.{numeral}

-- a number and the byte after it
abbrev pub count_text : ℕ → ℕ → List ℕ
count_text n end = numeral n ++ (end ∷ [])
