-- For private contracts alone: what is asked of a claim that is walked over, and where the walk ends.
use Rattle.std.specs.Prelude.{ℕ, ◌≤◌, ◌≡◌, true, List, length, take, Option}
use Rattle.record.specs.Limits.{line_limit}
use Rattle.record.specs.declared.StrictRecord.{StrictRecord}
use Rattle.claims.specs.Claims.{pairs, claim_suits}
use Rattle.claims.specs.Holds.{on_next, header_next, data_next}

pub record Comparing (line : List ℕ) (r : StrictRecord) (e p : ℕ) (elements params : List (List ℕ)) : Type 0 where
  pub short : length line ≤ line_limit
  pub fits : claim_suits line r e p elements params ≡ true

-- where the structured data ends
abbrev pub data_end : List ℕ → StrictRecord → ℕ → ℕ → List (List ℕ) → List (List ℕ) → Option ℕ
data_end line r e p elements params = on_next (header_next line r) λ a. data_next line a (pairs (take e elements)) (take p params)
