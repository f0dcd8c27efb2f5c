use Rattle.std.proofs.Common.{arith, refl}
use Rattle.message.proofs.Rooms.{measured_none, measured_on, measured_all}
use Rattle.message.proofs.Answers.{record_suits_lem, elements_counted, params_counted, front_length, front_row, param_short, fits_is}
use Rattle.message.proofs.fits.Goals as goal

pub slice_bounds-p-items-end : goal.slice_bounds-p-items-end
slice_bounds-p-items-end c = front_length _ _ (params_counted _ _ _ _ _ _ c.requires.params_value)

pub loop-p-init : goal.loop-p-init
loop-p-init c = measured_none c.args.room c.args.param_count _ _ refl

pub param_room-left-requires : goal.param_room-left-requires
param_room-left-requires c =
    let n = params_counted _ _ _ _ _ _ c.requires.params_value in
    param_short _ _ _ _ _ _ c.requires.params_value c.requires.line_len_bound c.loop-p.p-index (omega (arith, front_length _ _ n)) _ (front_row _ _ n _ c.loop-p-test.true)

pub loop-p-preserved : goal.loop-p-preserved
loop-p-preserved c =
    let n = params_counted _ _ _ _ _ _ c.requires.params_value in
    measured_on _ _ _ _ n _ c.loop-p.invariant (omega (arith, front_length _ _ n)) _ (front_row _ _ n _ c.loop-p-test.true) _ c.param_room-left.ensures

pub rest_fits-requires : goal.rest_fits-requires
rest_fits-requires c =
    record {
      line_len_bound = c.requires.line_len_bound;
      r_value = record_suits_lem _ _ _ _ _ _ c.requires.params_value;
      count_in_bounds = elements_counted _ _ _ _ _ _ c.requires.params_value;
    }

pub returns : goal.returns
returns c =
    let n = params_counted _ _ _ _ _ _ c.requires.params_value in
    fits_is _ _ _ _ _ _ c.requires.params_value c.args.room c.loop-p.left
    (measured_all _ _ _ _ n _ c.loop-p.invariant (omega (arith, front_length _ _ n)))
    _ c.rest_fits.ensures
