-- For private contracts alone: the text of a pair.
use Rattle.std.specs.Prelude.{ℕ, ◌+◌, ◌/◌, ◌%◌, ◌≤◌, ◌≡◌, List, [], ◌∷◌, ◌++◌, true, length, get_or, drop}
use Rattle.base.specs.Texts.{text_at}
use Rattle.output.specs.Output.{written}
use Rattle.lookup.specs.Unescape.{unescaped}

-- a number below 65,536 in two bytes, the low one first
unfoldable pub short : ℕ → List ℕ
short x = x % 256 ∷ x / 256 % 256 ∷ []

-- the number of the element and the length of the name, so that where the name ends is told
unfoldable pub head_text : ℕ → ℕ → List ℕ
head_text element len = short element ++ short len

unfoldable pub tail_text : List ℕ → List ℕ → List ℕ
tail_text name value = name ++ unescaped true value

-- of a row of the parameter table
unfoldable pub key_text : List ℕ → List ℕ → List ℕ
key_text s row =
    head_text (get_or row 0 0) (get_or row 2 0)
    ++ tail_text (text_at s (get_or row 1 0) (get_or row 2 0)) (text_at s (get_or row 3 0) (get_or row 4 0))

-- The first n bytes of a value are written from `at` on: with the rest behind them, unescaped, all of it is.
pub record Begun (v o : List ℕ) (at n : ℕ) (p : List ℕ) : Type 0 where
  pub inside : n ≤ length v
  pub same_length : length p ≡ length o
  pub counted : n + length (unescaped true (drop n v)) ≡ length (unescaped true v)
  pub owed : written p (at + n) (unescaped true (drop n v)) ≡ written o at (unescaped true v)
