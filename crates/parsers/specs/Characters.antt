-- The tag by the characters of a text: what the walk by bytes is to equal where the text is UTF-8.
use Rattle.std.specs.Prelude.{ℕ, List, Bool, ◌&&◌, not}
use Rattle.utf8.specs.Characters.{is_char, char_run}
use Rattle.white.specs.Characters.{white_char}

-- neither white nor `:`
abbrev pub tag_char : List ℕ → Bool
tag_char c = not (white_char c) && not (is_char 58 c)

-- the bytes of the characters before the first white one or `:`
abbrev pub tag_of : List (List ℕ) → ℕ
tag_of cs = char_run tag_char cs
