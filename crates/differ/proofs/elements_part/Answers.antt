use Rattle.std.proofs.Common.{refl}
use Rattle.differ.proofs.Ids.{longer_is}
use Rattle.differ.proofs.Whole.{part_is}
use Rattle.differ.proofs.elements_part.Goals as goal

pub returns : goal.returns
returns c = part_is _ _ _ c.requires.readable _ _ _ c.requires.readable_2 _ refl _ refl _ c.common_ids-k.ensures _ c.first_odd-odd.ensures _ (longer_is _ _ _ c.max.ensures) _ c.part_of.ensures
