-- R-13's answer in plain words: the longest beginning of a line that some line of the strict grammar also begins with, and what is reported of a line.
use Rattle.std.specs.Prelude.{ℕ, ◌≤◌, ◌<◌, ◌≡◌, List, ◌++◌, Bool, length, take, leb}
use Rattle.base.specs.Runs.{All}
use Rattle.record.specs.Limits.{line_limit}
use Rattle.grammar.specs.Line.{Division, Derives}

abbrev pub is_byte : ℕ → Bool
is_byte b = leb b 255

-- some line of the strict grammar, of any length, begins with t
pub record Viable (t : List ℕ) : Type 0 where
  pub rest : List ℕ
  pub rest_bytes : All is_byte rest
  pub division : Division
  pub derives : Derives (t ++ rest) division

-- n is the length of the longest beginning of the line that is viable
pub record Longest (line : List ℕ) (n : ℕ) : Type 0 where
  pub inside : n ≤ length line
  pub viable : Viable (take n line)
  pub no_longer : (m : ℕ) → n < m → m ≤ length line → Viable (take m line) → ⊥

-- What is reported of a line: with refusal 4 that length; 0 of a line that is too long, and of one that is accepted.
pub data Reports (line : List ℕ) (n : ℕ) : Type 0 where
  too_long : line_limit < length line → n ≡ 0 → Reports line n
  derived : (d : Division) → length line ≤ line_limit → Derives line d → n ≡ 0 → Reports line n
  underivable : length line ≤ line_limit → ((d : Division) → Derives line d → ⊥) → Longest line n → Reports line n
