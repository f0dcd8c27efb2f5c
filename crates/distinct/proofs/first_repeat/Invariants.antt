use Rattle.distinct.proofs.Trees.{Placed}
use Rattle.distinct.proofs.first_repeat.Given as goal

abbrev pub invariant-loop-i : goal.invariant-loop-i
invariant-loop-i l = Placed l.places l.n l.depths l.kids l.i
