use Rattle.std.proofs.Common.{length, ◌≤◌}
use Rattle.claim_data.specs.Ids.{Noted}
use Rattle.claim_data.proofs.note.Given as goal

abbrev pub invariant-loop-i : goal.invariant-loop-i
invariant-loop-i l = (l.i ≤ length l.ids) × (Noted l.ids l.i l.initial.starts l.initial.lens l.starts l.lens)
