use Rattle.std.proofs.Common.{◌-◌, length}
use Rattle.strict_data.proofs.Values.{Stopping}
use Rattle.strict_data.proofs.stop.Given as goal

abbrev pub invariant-loop-i : goal.invariant-loop-i
invariant-loop-i l = Stopping l.s l.i

abbrev pub decreases-loop-i : goal.decreases-loop-i
decreases-loop-i l = length l.s - l.i
