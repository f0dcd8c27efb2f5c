use Rattle.std.proofs.Common.{refl}
use Rattle.keyed.proofs.Odd.{both_halved, both_odd}
use Rattle.keyed.proofs.odd_of.Goals as goal

pub first_odd-requires-clause-halved : goal.first_odd-requires-clause-halved
first_odd-requires-clause-halved g c = both_halved _ _ _ _ _ _ c.requires.enough c.requires.small c.requires.few _ refl refl refl refl _ c.note_elements.ensures _ c.note_elements-2.ensures

pub returns : goal.returns
returns g c = both_odd _ _ _ _ _ _ c.requires.enough c.requires.small c.requires.few _ refl refl refl refl _ c.note_elements.ensures _ c.note_elements-2.ensures _ c.first_odd.ensures
