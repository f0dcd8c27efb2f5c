use Rattle.std.proofs.Common.{◌-◌, length}
use Rattle.differ.proofs.Eights.{Kept}
use Rattle.differ.proofs.same_long.Given as goal

abbrev pub invariant-loop-i : goal.invariant-loop-i
invariant-loop-i l = Kept l.a l.b l.i

abbrev pub decreases-loop-i : goal.decreases-loop-i
decreases-loop-i l = length l.a - l.i
