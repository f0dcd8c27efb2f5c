use Rattle.std.proofs.Common.{rules}
use Rattle.structured_data.proofs.Turning.{dead_none}
use Rattle.structured_data.proofs.Filling.{filling_none, filled_all, start_fits, holds, fill_less, filling_on, elements_fit_lem, params_fit_lem}
use Rattle.structured_data.proofs.fill_data.Goals as goal

pub loop-i-init : goal.loop-i-init
loop-i-init c = (filling_none _ _ _ _ _ _ _ c.requires (search rules), dead_none _ _)

pub put_id-requires-clause-start_bound : goal.put_id-requires-clause-start_bound
put_id-requires-clause-start_bound c = (start_fits _ _ _ _ _ _ _ c.requires _ _ _ _ _ c.loop-i.invariant.0 c.loop-i-test.true).fits

pub fill_params-walk-requires : goal.fill_params-walk-requires
fill_params-walk-requires c =
    holds _ _ _ _ _ _ _ c.requires _ _ _ _ _ c.loop-i.invariant.0 c.loop-i-test.true _ c.open_from-open.ensures _ _ c.loop-i.invariant.1 c.stop_from-stop.ensures

pub overflow_add-i : goal.overflow_add-i
overflow_add-i c =
    elements_fit_lem _ _ _ _ _ _ _ c.requires _ _ _ _ _ c.loop-i.invariant.0 c.loop-i-test.true _ c.open_from-open.ensures _ _ c.fill_params-walk.ensures _ c.turn_from-turn.ensures

pub overflow_add-j : goal.overflow_add-j
overflow_add-j c =
    params_fit_lem _ _ _ _ _ _ _ c.requires _ _ _ _ _ c.loop-i.invariant.0 c.loop-i-test.true _ c.open_from-open.ensures _ _ c.fill_params-walk.ensures _ c.turn_from-turn.ensures

pub loop-i-smaller : goal.loop-i-smaller
loop-i-smaller c =
    fill_less _ _ _ _ _ _ _ c.requires _ _ _ _ _ c.loop-i.invariant.0 c.loop-i-test.true _ c.open_from-open.ensures _ _ c.fill_params-walk.ensures _ c.turn_from-turn.ensures

pub loop-i-preserved : goal.loop-i-preserved
loop-i-preserved c = (
  rw c.put_id.ensures
      (filling_on _ _ _ _ _ _ _ c.requires _ _ _ _ _ c.loop-i.invariant.0 c.loop-i-test.true _ c.open_from-open.ensures _ _ c.fill_params-walk.ensures _ c.turn_from-turn.ensures),
  c.turn_from-turn.ensures.alive,
)

pub returns : goal.returns
returns c = filled_all _ _ _ _ _ _ _ c.requires _ _ _ _ _ c.loop-i.invariant.0 c.loop-i-test.false
