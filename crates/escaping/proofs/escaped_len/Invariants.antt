use Rattle.std.proofs.Common.{◌-◌, length}
use Rattle.escaping.proofs.Escapes.{Counted}
use Rattle.escaping.proofs.escaped_len.Given as goal

abbrev pub invariant-loop-i : goal.invariant-loop-i
invariant-loop-i l = Counted l.v l.n l.i

abbrev pub decreases-loop-i : goal.decreases-loop-i
decreases-loop-i l = length l.v - l.i
