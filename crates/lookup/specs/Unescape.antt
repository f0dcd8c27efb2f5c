-- Unescaping. Backslash before `"`, `\` or `]` goes. Loose: `\n` is a newline, any other pair stays, a lone last backslash goes.
-- Strict: `\n` stays two characters, and a lone last backslash stays.
use Rattle.std.specs.Prelude.{ℕ, List, [], ◌∷◌, Bool, true, false, ◌||◌, ◌&&◌, eqb, if◌then◌else◌}

-- `"`, `\` and `]`
abbrev pub is_escaped : ℕ → Bool
is_escaped b = eqb b 34 || eqb b 92 || eqb b 93

-- a byte after a backslash
abbrev pub pair_of : Bool → ℕ → List ℕ → List ℕ
pair_of loose b t = if is_escaped b then b ∷ t else if loose && eqb b 110 then 10 ∷ t else 92 ∷ b ∷ t

-- of what is left of a value, where the byte before is a backslash that takes this one (`taken`)
unfoldable pub unescaped_from : Bool → Bool → List ℕ → List ℕ
unescaped_from loose false [] = []
unescaped_from loose true [] = if loose then [] else 92 ∷ []
unescaped_from loose true (b ∷ t) = pair_of loose b (unescaped_from loose false t)
unescaped_from loose false (b ∷ t) = if eqb b 92 then unescaped_from loose true t else b ∷ unescaped_from loose false t

abbrev pub unescaped : Bool → List ℕ → List ℕ
unescaped loose v = unescaped_from loose false v
