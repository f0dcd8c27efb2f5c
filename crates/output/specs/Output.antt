-- An output that holds a text: from a position on, or at its front where it is long enough.
use Rattle.std.specs.Prelude.{ℕ, ◌+◌, ◌≡◌, List, ◌++◌, length, take, drop, Result, Ok, Err}
use Rattle.base.specs.Fills.{filled}
use Rattle.record.specs.declared.Refusal.{Refusal}

-- `out` with `text` from `at` on; every other byte as it was
unfoldable pub written : List ℕ → ℕ → List ℕ → List ℕ
written out at text = take at out ++ (text ++ drop (at + length text) out)

-- a write of `text` at `at` turned `before` into `after` and answered `next`, the position after it
pub record Wrote (before : List ℕ) (at : ℕ) (text : List ℕ) (next : ℕ) (after : List ℕ) : Type 0 where
  pub behind : next ≡ at + length text
  pub holds : after ≡ written before at text

-- what a call leaves in its output: the text at the front where it is done; unchanged on a refusal
abbrev pub output_after : Result ℕ Refusal → List ℕ → List ℕ → List ℕ
output_after (Ok n) text old = filled text old
output_after (Err f) text old = old
