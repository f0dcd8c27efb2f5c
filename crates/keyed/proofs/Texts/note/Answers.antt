use Rattle.std.proofs.Common.{refl}
use Rattle.keyed.proofs.Notes.{note_fits, note_small, note_notes}
use Rattle.keyed.proofs.Texts.note.Goals as goal

pub put_key-next-requires-clause-fits : goal.put_key-next-requires-clause-fits
put_key-next-requires-clause-fits c = note_fits _ _ _ c.requires.roomed

pub overflow_cast-self : goal.overflow_cast-self
overflow_cast-self c = record { fits = note_small _ _ _ c.requires.roomed _ _ c.put_key-next.ensures }

pub returns : goal.returns
returns c = note_notes _ _ _ c.requires.roomed _ _ c.put_key-next.ensures _ refl refl refl refl
