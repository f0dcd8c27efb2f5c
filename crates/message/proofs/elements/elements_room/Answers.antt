use Rattle.std.proofs.Common.{arith, refl, None, Some, ◌∙◌}
use Rattle.message.specs.Rooms.{element_size}
use Rattle.message.proofs.Rooms.{rows_end, rows_short, rows_on, ids_step, ids_ended}
use Rattle.message.proofs.elements.elements_room.Goals as goal

pub returns-in_err-left : goal.returns-in_err-left
returns-in_err-left c =
    c.from_residual.ensures
    ∙ rows_short element_size _ _ _ _ c.loop-row.invariant _ (ids_step _ c.loop-row.row-index (omega arith)) None c.in_err-left.ensures refl

pub loop-row-preserved : goal.loop-row-preserved
loop-row-preserved c =
    rows_on element_size _ _ _ _ c.loop-row.invariant _ (ids_step _ c.loop-row.row-index (omega arith)) (Some c.in_ok-left.left) c.in_ok-left.ensures _ refl

pub returns : goal.returns
returns c = rows_end element_size c.args.ids.now _ _ c.loop-row.row-index c.loop-row.invariant (ids_ended c.args.ids.now c.loop-row.row-index (omega arith))
