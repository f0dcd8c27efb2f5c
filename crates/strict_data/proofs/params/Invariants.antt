use Rattle.std.proofs.Common.{◌-◌, length}
use Rattle.strict_data.proofs.Counting.{Params}
use Rattle.strict_data.proofs.params.Given as goal

abbrev pub invariant-loop-i : goal.invariant-loop-i
invariant-loop-i l = Params l.s l.i l.count

abbrev pub decreases-loop-i : goal.decreases-loop-i
decreases-loop-i l = length l.s - l.i
