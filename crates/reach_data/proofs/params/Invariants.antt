use Rattle.std.proofs.Common.{◌-◌, length}
use Rattle.reach_data.proofs.Items.{Looping}
use Rattle.reach_data.proofs.params.Given as goal

abbrev pub invariant-loop-i : goal.invariant-loop-i
invariant-loop-i l = Looping l.s l.at l.i

abbrev pub decreases-loop-i : goal.decreases-loop-i
decreases-loop-i l = length l.s - l.i
