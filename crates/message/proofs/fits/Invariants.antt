use Rattle.record.specs.Params.{rows}
use Rattle.message.proofs.Rooms.{Measured}
use Rattle.message.proofs.fits.Given as goal

-- what the parameters passed leave of the room
abbrev pub invariant-loop-p : goal.invariant-loop-p
invariant-loop-p l = Measured l.fn.room l.param_count (rows l.params) l.left l.p-index
