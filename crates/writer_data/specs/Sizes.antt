-- For private contracts alone: sizes that stop at 8,193, so that no sum wraps, however long the places.
use Rattle.std.specs.Prelude.{ℕ, ◌+◌, ◌≤◌, ◌<◌, ◌≡◌}
use Rattle.record.specs.Limits.{line_limit}

pub data Capped (n r : ℕ) : Type 0 where
  exact : n ≤ line_limit → r ≡ n → Capped n r
  over : line_limit < n → r ≡ line_limit + 1 → Capped n r
