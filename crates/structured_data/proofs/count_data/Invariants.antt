use Rattle.std.proofs.Common.{◌-◌, length}
use Rattle.structured_data.proofs.Counting.{Counted}
use Rattle.structured_data.specs.Steps.{Dead}
use Rattle.structured_data.proofs.count_data.Given as goal

abbrev pub invariant-loop-i : goal.invariant-loop-i
invariant-loop-i l = Counted l.rules l.s l.at l.elements l.params l.i × Dead l.s l.i l.dead

abbrev pub decreases-loop-i : goal.decreases-loop-i
decreases-loop-i l = length l.s - l.i
