use Rattle.std.proofs.Common.{◌-◌, length}
use Rattle.reach_data.proofs.Noted.{Walking}
use Rattle.reach_data.proofs.note_all.Given as goal

abbrev pub invariant-loop-at : goal.invariant-loop-at
invariant-loop-at l = Walking l.s l.at l.i l.k l.initial.starts l.initial.lens l.starts l.lens

abbrev pub decreases-loop-at : goal.decreases-loop-at
decreases-loop-at l = length l.s - l.i
