use Rattle.digits.proofs.Numbers.{Passed}
use Rattle.digits.proofs.digits.Given as goal

abbrev pub invariant-loop-i : goal.invariant-loop-i
invariant-loop-i l = Passed l.s l.max l.i l.value
