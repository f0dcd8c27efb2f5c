use Rattle.std.proofs.Common.{sym}
use Rattle.keyed.proofs.Notes.{passing_none, passing_room, passing_all, passing_last, passing_less, passing_on}
use Rattle.keyed.proofs.Texts.note_params.Goals as goal

pub loop-next-init : goal.loop-next-init
loop-next-init c = passing_none _ _ _ _ c.requires.from_in_bounds

pub note_one-requires-clause-roomed : goal.note_one-requires-clause-roomed
note_one-requires-clause-roomed c = passing_room _ _ _ _ _ _ c.loop-next.invariant c.requires.roomed

pub returns-then-not-is_at : goal.returns-then-not-is_at
returns-then-not-is_at c = passing_last _ _ _ _ _ _ c.loop-next.invariant _ _ c.in-Some.ensures (sym c.if-not-is_at.ensures)

pub loop-next-smaller : goal.loop-next-smaller
loop-next-smaller c = passing_less _ _ _ _ _ _ c.loop-next.invariant _ _ c.in-Some.ensures (sym c.if-not-is_at.ensures)

pub loop-next-preserved : goal.loop-next-preserved
loop-next-preserved c = passing_on _ _ _ _ _ _ c.loop-next.invariant _ _ c.in-Some.ensures (sym c.if-not-is_at.ensures)

pub returns : goal.returns
returns c = passing_all _ _ _ _ _ _ c.loop-next.invariant _ c.in_default.ensures
