-- Texts by their characters: what a walk by bytes is to equal where the text is UTF-8.
use Rattle.std.specs.Prelude.{ℕ, ◌+◌, Bool, false, List, [], ◌∷◌, eqb, length, if◌then◌else◌}

-- the character is the one byte `b`, which is ASCII
abbrev pub is_char : ℕ → List ℕ → Bool
is_char b [] = false
is_char b (a ∷ []) = eqb a b
is_char b (a ∷ x ∷ c) = false

-- how many bytes the characters at the front take that pass the test, up to the first that does not
unfoldable pub char_run : (List ℕ → Bool) → List (List ℕ) → ℕ
char_run p [] = 0
char_run p (c ∷ cs) = if p c then length c + char_run p cs else 0
