-- For private contracts alone: from `at` to `i` a text has whole characters.
use Rattle.std.specs.Prelude.{ℕ, ◌≤◌, ◌≡◌, List, length, drop}
use Rattle.utf8.specs.Lead.{is_utf8}

-- it goes on to `i`, and the rest is UTF-8 at the one place exactly where it is at the other
pub record Onward (s : List ℕ) (at i : ℕ) : Type 0 where
  pub least : at ≤ i
  pub most : i ≤ length s
  pub same : is_utf8 (drop at s) ≡ is_utf8 (drop i s)
