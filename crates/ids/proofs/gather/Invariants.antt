use Rattle.ids.proofs.Many.{Gathering}
use Rattle.ids.proofs.gather.Given as goal

abbrev pub invariant-loop-i : goal.invariant-loop-i
invariant-loop-i l = Gathering l.text l.rows l.from l.at l.most l.initial.out l.i l.end l.out
