use Rattle.std.proofs.Common.{refl, None, Some, ◌∙◌}
use Rattle.message.specs.Rooms.{element_size}
use Rattle.message.proofs.Rooms.{room_out, room_then}
use Rattle.message.proofs.elements.element_room.Goals as goal

pub returns-in_err-a : goal.returns-in_err-a
unfolding element_size
returns-in_err-a c = c.from_residual.ensures ∙ room_out _ _ _ None c.in_err-a.ensures refl

pub returns : goal.returns
unfolding element_size
returns c = room_then _ _ _ (Some c.in_ok-a.a) c.in_ok-a.ensures _ refl _ c.room_for-2.ensures
