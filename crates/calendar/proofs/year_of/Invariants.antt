use Rattle.calendar.proofs.Walks.{YearAt}
use Rattle.calendar.proofs.year_of.Given as goal

abbrev pub invariant-loop-y : goal.invariant-loop-y
invariant-loop-y l = YearAt l.n l.y
