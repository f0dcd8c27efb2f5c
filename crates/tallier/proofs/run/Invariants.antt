use Rattle.tallier.proofs.Counted.{Running}
use Rattle.tallier.proofs.run.Given as goal

abbrev pub invariant-loop-s : goal.invariant-loop-s
invariant-loop-s l = Running l.initial.line l.initial.chunk l.initial.tally l.line l.chunk l.tally l.s

abbrev pub decreases-loop-s : goal.decreases-loop-s
decreases-loop-s l = l.s.left
