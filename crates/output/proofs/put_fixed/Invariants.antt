use Rattle.std.proofs.Common.{◌+◌, ◌≤◌, length}
use Rattle.output.specs.Numerals.{fixed}
use Rattle.output.proofs.Writes.{Owes}
use Rattle.output.proofs.put_fixed.Given as goal

abbrev pub invariant-loop-left : goal.invariant-loop-left
invariant-loop-left l = (l.left ≤ l.k) × (l.at + l.k ≤ length l.initial.out) × Owes l.initial.out l.at (fixed l.k l.n) l.out l.at (fixed l.left l.rest)

abbrev pub decreases-loop-left : goal.decreases-loop-left
decreases-loop-left l = l.left
