use Rattle.std.proofs.Common.{◌-◌, length}
use Rattle.reach_data.proofs.Messages.{Reading}
use Rattle.reach_data.proofs.utf8_to_end.Given as goal

abbrev pub invariant-loop-i : goal.invariant-loop-i
invariant-loop-i l = Reading l.s l.at l.more l.low l.high l.i

abbrev pub decreases-loop-i : goal.decreases-loop-i
decreases-loop-i l = length l.s - l.i
