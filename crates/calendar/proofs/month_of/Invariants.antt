use Rattle.calendar.proofs.Walks.{MonthAt}
use Rattle.calendar.proofs.month_of.Given as goal

abbrev pub invariant-loop-m : goal.invariant-loop-m
invariant-loop-m l = MonthAt l.y l.n l.m
