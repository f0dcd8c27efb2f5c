-- Fields and trimming, by the characters of a text: what the walks by bytes are to equal where the text is UTF-8.
use Rattle.std.specs.Prelude.{ℕ, ◌+◌, List, [], ◌∷◌, Bool, true, not, ◌&&◌, length, if◌then◌else◌}
use Rattle.utf8.specs.Characters.{char_run}
use Rattle.white.specs.White.{is_white, code_point}

abbrev pub white_char : List ℕ → Bool
white_char c = is_white (code_point c)

-- the bytes of the characters before the first white one
abbrev pub field_of : List (List ℕ) → ℕ
field_of cs = char_run (λ c. not (white_char c)) cs

-- the bytes of the white characters at the front
abbrev pub white_of : List (List ℕ) → ℕ
white_of cs = char_run white_char cs

unfoldable pub all_white : List (List ℕ) → Bool
all_white [] = true
all_white (c ∷ cs) = white_char c && all_white cs

-- the bytes of the characters up to the last that is not white
unfoldable pub end_of : List (List ℕ) → ℕ
end_of [] = 0
end_of (c ∷ cs) = if all_white (c ∷ cs) then 0 else length c + end_of cs
