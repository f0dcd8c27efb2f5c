-- For private contracts alone: what functions that write ask for, and what functions that measure say.
use Rattle.std.specs.Prelude.{ℕ, ◌+◌, ◌≤◌, ◌≡◌, List, length}

-- `out` has room for `text` from `at` on
pub record Fits (out : List ℕ) (at : ℕ) (text : List ℕ) : Type 0 where
  pub fits : at + length text ≤ length out

-- `n` is the length of `text`, and at most `most`
pub record Sized (text : List ℕ) (most n : ℕ) : Type 0 where
  pub is : n ≡ length text
  pub to : n ≤ most
