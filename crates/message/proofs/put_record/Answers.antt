use Rattle.std.proofs.Common.{◌<◌, arith}
use Rattle.message.proofs.Answers.{record_suits_lem, elements_counted, params_counted, front_length, front_row, ids_suit}
use Rattle.message.proofs.Turns.{before_fits, walk_start, walk_whole, turn_suits, turn_fits, walk_on, behind_fits, walk_end}
use Rattle.message.proofs.put_record.Goals as goal

pub put_before-at-requires : goal.put_before-at-requires
put_before-at-requires c =
    record {
      fits = before_fits _ _ _ _ _ _ c.requires.params_value _ c.requires.fits;
      r_value = record_suits_lem _ _ _ _ _ _ c.requires.params_value;
      count_in_bounds = elements_counted _ _ _ _ _ _ c.requires.params_value;
      elements_value = ids_suit _ _ _ _ _ _ c.requires.params_value;
    }

pub loop-p-init : goal.loop-p-init
loop-p-init c = walk_start _ _ _ _ _ _ c.requires.params_value _ c.requires.fits _ _ c.put_before-at.ensures

pub slice_bounds-p-items-end : goal.slice_bounds-p-items-end
slice_bounds-p-items-end c = front_length _ _ (params_counted _ _ _ _ _ _ c.requires.params_value)

pub put_turn-at-requires : goal.put_turn-at-requires
put_turn-at-requires c =
    let n = params_counted _ _ _ _ _ _ c.requires.params_value in
    let ex = front_row _ _ n _ c.loop-p-test.true in
    let l : c.loop-p.p-index < c.args.param_count = omega (arith, front_length _ _ n) in
    record {
      fits = turn_fits _ _ _ _ _ _ c.requires.params_value _ _ _ _ _ _ c.loop-p.invariant l _ ex;
      count_in_bounds = elements_counted _ _ _ _ _ _ c.requires.params_value;
      elements_value = ids_suit _ _ _ _ _ _ c.requires.params_value;
      p_value = turn_suits _ _ _ _ _ _ c.requires.params_value _ _ _ _ _ _ c.loop-p.invariant l _ ex;
    }

pub loop-p-preserved : goal.loop-p-preserved
loop-p-preserved c =
    let n = params_counted _ _ _ _ _ _ c.requires.params_value in
    let ex = front_row _ _ n _ c.loop-p-test.true in
    let l : c.loop-p.p-index < c.args.param_count = omega (arith, front_length _ _ n) in
    walk_on _ _ _ _ _ _ c.requires.params_value _ _ _ _ _ _ c.loop-p.invariant l _ ex _ _ c.put_turn-at.ensures

pub put_behind-requires : goal.put_behind-requires
put_behind-requires c =
    record {
      fits = behind_fits _ _ _ _ _ _ c.requires.params_value _ _ _ _ _ _ c.loop-p.invariant (omega (arith, front_length _ _ (params_counted _ _ _ _ _ _ c.requires.params_value)));
      r_value = record_suits_lem _ _ _ _ _ _ c.requires.params_value;
      count_in_bounds = elements_counted _ _ _ _ _ _ c.requires.params_value;
      elements_value = ids_suit _ _ _ _ _ _ c.requires.params_value;
      k_bound = c.loop-p.invariant.opened;
    }

pub returns : goal.returns
returns c =
    walk_whole _ _ _ _ _ _ c.requires.params_value _ c.requires.fits _ _ c.put_before-at.ensures _ _
    (walk_end _ _ _ _ _ _ c.requires.params_value _ _ _ _ _ _ c.loop-p.invariant (omega (arith, front_length _ _ (params_counted _ _ _ _ _ _ c.requires.params_value))) _ _ c.put_behind.ensures)
