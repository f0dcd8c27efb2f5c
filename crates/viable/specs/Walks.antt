-- For private contracts alone: what a walk over a piece of a line answers, for the piece's reader and its far.
use Rattle.std.specs.Prelude.{ℕ, ◌+◌, List, drop, Result, Ok, Err}
use Rattle.grammar.specs.Parse.{Parsed, Reader}
use Rattle.grammar.specs.Parse.Parsed.{failed, found}
use Rattle.viable.specs.Far.{Far}

abbrev pub went_of : {A : Type 0} → Parsed A → ℕ → Result ℕ ℕ
went_of failed k = Err k
went_of (found a n) k = Ok n

-- the same after n bytes
abbrev pub onward_of : ℕ → Result ℕ ℕ → Result ℕ ℕ
onward_of n (Ok m) = Ok (n + m)
onward_of n (Err k) = Err (n + k)

-- the piece that stands at a place of the line
unfoldable pub went_at : {A : Type 0} → Reader A → Far → List ℕ → ℕ → Result ℕ ℕ
went_at p f line at = onward_of at (went_of (p (drop at line)) (f (drop at line)))
