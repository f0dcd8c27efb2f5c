-- Unescaping by the characters of a value: what the walk by bytes is to equal where the value is UTF-8.
use Rattle.std.specs.Prelude.{ℕ, List, [], ◌∷◌, Bool, true, false, ◌||◌, ◌&&◌, if◌then◌else◌}
use Rattle.utf8.specs.Characters.{is_char}

-- `"`, `\` and `]`
abbrev pub escaped_char : List ℕ → Bool
escaped_char c = is_char 34 c || is_char 92 c || is_char 93 c

-- a character after a backslash
abbrev pub pair_of_chars : Bool → List ℕ → List (List ℕ) → List (List ℕ)
pair_of_chars loose c cs = if escaped_char c then c ∷ cs else if loose && is_char 110 c then (10 ∷ []) ∷ cs else (92 ∷ []) ∷ c ∷ cs

-- of what is left of a value, where the character before is a backslash that takes this one (`taken`)
unfoldable pub unescaped_of : Bool → Bool → List (List ℕ) → List (List ℕ)
unescaped_of loose false [] = []
unescaped_of loose true [] = if loose then [] else (92 ∷ []) ∷ []
unescaped_of loose true (c ∷ cs) = pair_of_chars loose c (unescaped_of loose false cs)
unescaped_of loose false (c ∷ cs) = if is_char 92 c then unescaped_of loose true cs else c ∷ unescaped_of loose false cs
