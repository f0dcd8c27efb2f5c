use Rattle.std.proofs.Common.{◌-◌, length}
use Rattle.escaping.proofs.Escapes.{Puts}
use Rattle.escaping.proofs.put_escaped.Given as goal

abbrev pub invariant-loop-i : goal.invariant-loop-i
invariant-loop-i l = Puts l.v l.initial.i l.initial.out l.initial.to l.out l.to l.i

abbrev pub decreases-loop-i : goal.decreases-loop-i
decreases-loop-i l = length l.v - l.i
