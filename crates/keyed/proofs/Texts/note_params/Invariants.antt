use Rattle.std.proofs.Common.{◌-◌, length}
use Rattle.keyed.proofs.Notes.{Passing}
use Rattle.keyed.proofs.Texts.note_params.Given as goal

abbrev pub invariant-loop-next : goal.invariant-loop-next
invariant-loop-next l = Passing l.s l.e l.from l.initial.self l.self l.start

abbrev pub decreases-loop-next : goal.decreases-loop-next
decreases-loop-next l = length l.s - l.start
