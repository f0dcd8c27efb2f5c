-- For private contracts alone: many texts in one. Text k lies between the k-th end and the next.
use Rattle.std.specs.Prelude.{ℕ, ◌+◌, ◌-◌, ◌≤◌, ◌<◌, List, length, get_or}
use Rattle.base.specs.Texts.{text_at}

unfoldable pub key_of : List ℕ → List ℕ → ℕ → List ℕ
key_of text ends k = text_at text (get_or ends k 0) (get_or ends (k + 1) 0 - get_or ends k 0)

-- the first n are given, and lie in the text
pub record Keys (text ends : List ℕ) (n : ℕ) : Type 0 where
  pub ends_given : n < length ends
  pub in_order : (k : ℕ) → k < n → get_or ends k 0 ≤ get_or ends (k + 1) 0
  pub inside : (k : ℕ) → k < n → get_or ends (k + 1) 0 ≤ length text
