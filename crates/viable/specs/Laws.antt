-- What holds of the longest beginning, to be read alone. proofs/Laws.antt has the proofs.
use Rattle.std.specs.Prelude.{ℕ, ◌≤◌, ◌<◌, ◌≡◌, List, length, take}
use Rattle.base.specs.Runs.{All}
use Rattle.viable.specs.Viable.{is_byte, Viable, Longest, Reports}

-- Every line has a longest beginning that is viable, and no other.
abbrev pub LongestIs : Type 0
LongestIs = (line : List ℕ) → (n : ℕ) × Longest line n

abbrev pub LongestOne : Type 0
LongestOne = (line : List ℕ) (m n : ℕ) → Longest line m → Longest line n → m ≡ n

-- A beginning of what is viable is viable: up to the longest all are, and after it none.
abbrev pub ShorterToo : Type 0
ShorterToo = (line : List ℕ) → All is_byte line → (m n : ℕ) → m ≤ n → Viable (take n line) → Viable (take m line)

-- A line that is cut short reports its whole length.
abbrev pub CutShort : Type 0
CutShort = (line : List ℕ) (n : ℕ) → Viable line → Longest line n → n ≡ length line

-- The report is under the line's length exactly where no line begins with it.
abbrev pub UnderWhereBroken : Type 0
UnderWhereBroken = (line : List ℕ) (n : ℕ) → Longest line n → (n < length line → Viable line → ⊥) × ((Viable line → ⊥) → n < length line)

-- Of each line one thing is reported.
abbrev pub ReportsOne : Type 0
ReportsOne = (line : List ℕ) (m n : ℕ) → Reports line m → Reports line n → m ≡ n
