use Rattle.std.proofs.Common.{ℕ}
use Rattle.tally.specs.Tally.{cell, row_count}
use Rattle.tally.proofs.Calls.{Summing}
use Rattle.tally.proofs.column_sum.Given as goal

abbrev pub invariant-loop-row : goal.invariant-loop-row
invariant-loop-row l = Summing (λ (i : ℕ). cell l.rows i l.j) row_count l.row-index l.sum
