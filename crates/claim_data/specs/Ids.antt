-- For private contracts alone: ids by their entries, and their places as they are noted.
use Rattle.std.specs.Prelude.{ℕ, ◌+◌, ◌*◌, ◌≤◌, ◌<◌, ◌≡◌, List, [], length, get_or}
use Rattle.record.specs.Limits.{line_limit}
use Rattle.distinct.specs.Tree.{Room}

-- the entries of ids that lie in a line that is not too long
pub record Ids (line : List ℕ) (ids : List (List ℕ)) : Type 0 where
  pub short : length line ≤ line_limit
  pub few : 3 * length ids ≤ length line
  pub inside : (k : ℕ) → k < length ids → get_or (get_or ids k []) 0 0 + get_or (get_or ids k []) 1 0 ≤ length line
  pub names : (k : ℕ) → k < length ids → get_or (get_or ids k []) 1 0 ≤ 32

-- room for their places, which fit it
pub record Notable (ids : List (List ℕ)) (starts lens : List ℕ) : Type 0 where
  pub starts_room : length ids ≤ length starts
  pub lens_room : length ids ≤ length lens
  pub starts_fit : (k : ℕ) → k < length ids → get_or (get_or ids k []) 0 0 < 65536
  pub lens_fit : (k : ℕ) → k < length ids → get_or (get_or ids k []) 1 0 < 256

-- the first n are noted
pub record Noted (ids : List (List ℕ)) (n : ℕ) (starts₀ lens₀ starts lens : List ℕ) : Type 0 where
  pub starts_kept : length starts ≡ length starts₀
  pub lens_kept : length lens ≡ length lens₀
  pub starts_are : (k : ℕ) → k < n → get_or starts k 0 ≡ get_or (get_or ids k []) 0 0
  pub lens_are : (k : ℕ) → k < n → get_or lens k 0 ≡ get_or (get_or ids k []) 1 0

-- room for what tells them apart, all zeros
pub record Spacious (ids : List (List ℕ)) (starts lens depths kids : List ℕ) : Type 0 where
  pub notable : Notable ids starts lens
  pub room : Room (length ids) depths kids
  pub clear : (q : ℕ) → get_or kids q 0 ≡ 0
