use Rattle.std.proofs.Common.{◌-◌, length}
use Rattle.reach_data.proofs.Values.{Walking}
use Rattle.reach_data.proofs.value.Given as goal

abbrev pub invariant-loop-i : goal.invariant-loop-i
invariant-loop-i l = Walking l.s l.at l.paired l.more l.low l.high l.i

abbrev pub decreases-loop-i : goal.decreases-loop-i
decreases-loop-i l = length l.s - l.i
