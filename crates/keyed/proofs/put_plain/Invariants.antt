use Rattle.keyed.specs.Keys.{Begun}
use Rattle.keyed.proofs.put_plain.Given as goal

abbrev pub invariant-loop-i : goal.invariant-loop-i
invariant-loop-i l = Begun l.v l.initial.out l.at l.i l.out
