use Rattle.std.proofs.Common.{ℕ, get_or}
use Rattle.tally.specs.Tally.{column_count}
use Rattle.tally.proofs.Calls.{Summing}
use Rattle.tally.proofs.row_sum.Given as goal

abbrev pub invariant-loop-n : goal.invariant-loop-n
invariant-loop-n l = Summing (λ (j : ℕ). get_or l.row j 0) column_count l.n-index l.sum
