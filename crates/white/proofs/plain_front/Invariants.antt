use Rattle.std.proofs.Common.{◌-◌, length}
use Rattle.white.proofs.Walks.{Walked}
use Rattle.white.proofs.plain_front.Given as goal

abbrev pub invariant-loop-i : goal.invariant-loop-i
invariant-loop-i l = Walked l.s l.i

abbrev pub decreases-loop-i : goal.decreases-loop-i
decreases-loop-i l = length l.s - l.i
