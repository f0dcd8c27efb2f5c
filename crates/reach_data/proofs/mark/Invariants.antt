use Rattle.std.proofs.Common.{◌-◌}
use Rattle.reach_data.proofs.Shut.{Marking}
use Rattle.reach_data.proofs.mark.Given as goal

abbrev pub invariant-loop-i : goal.invariant-loop-i
invariant-loop-i l = Marking l.s l.starts l.lens l.j l.i l.seen
