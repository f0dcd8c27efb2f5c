-- Id, name and value by the characters of a text: what the walks by bytes are to equal where the text is UTF-8.
use Rattle.std.specs.Prelude.{ℕ, ◌+◌, List, [], ◌∷◌, Bool, true, false, not, ◌&&◌, ◌||◌, length, if◌then◌else◌}
use Rattle.utf8.specs.Characters.{is_char, char_run}
use Rattle.white.specs.Characters.{white_char}

-- neither `]` nor `=`
abbrev pub named_char : List ℕ → Bool
named_char c = not (is_char 93 c || is_char 61 c)

-- nor white
abbrev pub id_char : List ℕ → Bool
id_char c = not (white_char c) && named_char c

-- the bytes of the characters before the first white one, `]` or `=`
abbrev pub id_of : List (List ℕ) → ℕ
id_of cs = char_run id_char cs

-- the bytes of the characters before the first `]` or `=`
abbrev pub name_of : List (List ℕ) → ℕ
name_of cs = char_run named_char cs

-- The bytes of the characters before the quote that ends a value. Backslash takes the next character with it. The test: the character
-- before is a backslash that takes this one.
unfoldable pub quoted_of : Bool → List (List ℕ) → ℕ
quoted_of taken [] = 0
quoted_of true (c ∷ cs) = length c + quoted_of false cs
quoted_of false (c ∷ cs) = if is_char 34 c then 0 else length c + quoted_of (is_char 92 c) cs
