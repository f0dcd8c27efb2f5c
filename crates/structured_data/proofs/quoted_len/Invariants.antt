use Rattle.std.proofs.Common.{◌-◌, length}
use Rattle.structured_data.proofs.Values.{Quoted}
use Rattle.structured_data.proofs.quoted_len.Given as goal

abbrev pub invariant-loop-i : goal.invariant-loop-i
invariant-loop-i l = Quoted l.s l.i

abbrev pub decreases-loop-i : goal.decreases-loop-i
decreases-loop-i l = length l.s - l.i
