-- App and process id by the characters of a text: what the walks by bytes are to equal where the text is UTF-8.
use Rattle.std.specs.Prelude.{ℕ, List, not, ◌||◌}
use Rattle.utf8.specs.Characters.{is_char, char_run}

-- the bytes of the characters before the first `:` or `[`
abbrev pub app_of : List (List ℕ) → ℕ
app_of cs = char_run (λ c. not (is_char 58 c || is_char 91 c)) cs

-- the bytes of the characters before the first `]`
abbrev pub pid_of : List (List ℕ) → ℕ
pid_of cs = char_run (λ c. not (is_char 93 c)) cs
