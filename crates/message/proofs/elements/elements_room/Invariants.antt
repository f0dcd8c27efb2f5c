use Rattle.std.proofs.Common.{◌≡◌, drop}
use Rattle.message.specs.Rooms.{room_for, element_size, total}
use Rattle.message.proofs.elements.elements_room.Given as goal

abbrev pub invariant-loop-row : goal.invariant-loop-row
invariant-loop-row l = room_for l.room (total element_size l.ids) ≡ room_for l.left (total element_size (drop l.row-index l.ids))
