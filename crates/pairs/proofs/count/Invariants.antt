use Rattle.pairs.specs.Odd.{Counted}
use Rattle.pairs.proofs.count.Given as goal

abbrev pub invariant-loop-c : goal.invariant-loop-c
invariant-loop-c l = Counted l.classes 0 l.c-index l.counts
