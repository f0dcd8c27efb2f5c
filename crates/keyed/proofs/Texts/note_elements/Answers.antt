use Rattle.keyed.proofs.Elements.{walking_all, walking_from, walking_room, walking_on}
use Rattle.keyed.proofs.Texts.note_elements.Goals as goal

pub note_params-requires-clause-from_in_bounds : goal.note_params-requires-clause-from_in_bounds
note_params-requires-clause-from_in_bounds c = walking_from _ _ _ _ _ c.loop-i.invariant c.loop-i-test.true _ c.blanks_from-from.ensures c.args.line.inside

pub note_params-requires-clause-roomed : goal.note_params-requires-clause-roomed
note_params-requires-clause-roomed c = walking_room _ _ _ _ _ c.loop-i.invariant c.loop-i-test.true _ c.blanks_from-from.ensures c.requires.roomed

pub loop-i-preserved : goal.loop-i-preserved
loop-i-preserved c = walking_on _ _ _ _ _ c.loop-i.invariant c.loop-i-test.true _ c.blanks_from-from.ensures _ c.note_params.ensures

pub returns : goal.returns
returns c = walking_all _ _ _ _ _ c.loop-i.invariant c.loop-i-test.false
