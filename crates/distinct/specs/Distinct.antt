-- For private contracts alone: the first of a line's ids that occurred before. The ids are given by a start and a length each.
use Rattle.std.specs.Prelude.{ℕ, ◌+◌, ◌≤◌, ◌<◌, ◌≡◌, List, length, get_or}
use Rattle.base.specs.Texts.{text_at, Differ}

-- the id of element k
abbrev pub id_of : List ℕ → List ℕ → List ℕ → ℕ → List ℕ
id_of line starts lens k = text_at line (get_or starts k 0) (get_or lens k 0)

-- the first n ids are given, and lie in the line
pub record Rows (line starts lens : List ℕ) (n : ℕ) : Type 0 where
  pub starts_given : n ≤ length starts
  pub lens_given : n ≤ length lens
  pub inside : (k : ℕ) → k < n → get_or starts k 0 + get_or lens k 0 ≤ length line

-- an id before k is the same
pub record Repeated (id : ℕ → List ℕ) (k : ℕ) : Type 0 where
  pub earlier : ℕ
  pub is_earlier : earlier < k
  pub is_same : id earlier ≡ id k

-- of the first n ids k come before the first that is the same as an earlier one; k is n where none is
pub record FirstRepeat (id : ℕ → List ℕ) (n k : ℕ) : Type 0 where
  pub inside : k ≤ n
  pub differ : Differ id k
  pub repeated : k < n → Repeated id k
