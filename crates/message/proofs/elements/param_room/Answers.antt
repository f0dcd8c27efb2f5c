use Rattle.message.specs.Rooms.{param_size}
use Rattle.message.proofs.Rooms.{after_left}
use Rattle.message.proofs.elements.param_room.Goals as goal

pub returns : goal.returns
unfolding param_size
returns c = after_left _ _ _ c.in_ok-left.was _ c.room_for.ensures
