use Rattle.record.specs.Params.{rows}
use Rattle.writer.proofs.Walks.{record_suited, rows_suited, table_counted, entered, entry_in}
use Rattle.writer.proofs.Putting.{put_before, put_start, put_whole, put_fits, put_on, put_less, put_last, put_end}
use Rattle.writer.proofs.put_line.Goals as goal

pub put_start-w-requires-clause-fits : goal.put_start-w-requires-clause-fits
put_start-w-requires-clause-fits c =
    put_before c.args.text.now c.args.h c.args.elements.now (rows c.args.params.now) c.requires.params_value _ c.requires.fits

pub put_start-w-requires-clause-h_value : goal.put_start-w-requires-clause-h_value
put_start-w-requires-clause-h_value c = record_suited c.args.text.now c.args.h c.args.elements.now (rows c.args.params.now) c.requires.params_value

pub put_start-w-requires-clause-rows : goal.put_start-w-requires-clause-rows
put_start-w-requires-clause-rows c = rows_suited c.args.text.now c.args.h c.args.elements.now (rows c.args.params.now) c.requires.params_value

pub loop-w-init : goal.loop-w-init
loop-w-init c =
    put_start c.args.text.now c.args.h c.args.elements.now (rows c.args.params.now) c.requires.params_value _ c.requires.fits _ _ c.put_start-w.ensures

pub entry_or-p-requires : goal.entry_or-p-requires
entry_or-p-requires c = table_counted c.args.text.now c.args.h c.args.elements.now c.args.params.now c.requires.params_value

pub put_turn-w-requires-clause-fits : goal.put_turn-w-requires-clause-fits
put_turn-w-requires-clause-fits c =
    put_fits c.args.text.now c.args.h c.args.elements.now (rows c.args.params.now) c.requires.params_value _ _ _ _ c.loop-w.invariant c.loop-w-test.true _
    (entered c.args.text.now c.args.h c.args.elements.now c.args.params.now c.requires.params_value _ _ c.entry_or-p.ensures)

pub put_turn-w-requires-clause-rows : goal.put_turn-w-requires-clause-rows
put_turn-w-requires-clause-rows c = rows_suited c.args.text.now c.args.h c.args.elements.now (rows c.args.params.now) c.requires.params_value

pub put_turn-w-requires-clause-entry : goal.put_turn-w-requires-clause-entry
put_turn-w-requires-clause-entry c = entry_in c.args.text.now c.args.h c.args.elements.now c.args.params.now c.requires.params_value _ _ c.entry_or-p.ensures

pub loop-w-smaller : goal.loop-w-smaller
loop-w-smaller c =
    put_less c.args.text.now c.args.h c.args.elements.now (rows c.args.params.now) c.requires.params_value _ _ _ _ c.loop-w.invariant c.loop-w-test.true _
    (entered c.args.text.now c.args.h c.args.elements.now c.args.params.now c.requires.params_value _ _ c.entry_or-p.ensures) _ _ c.put_turn-w.ensures

pub loop-w-preserved : goal.loop-w-preserved
loop-w-preserved c =
    put_on c.args.text.now c.args.h c.args.elements.now (rows c.args.params.now) c.requires.params_value _ _ _ _ c.loop-w.invariant c.loop-w-test.true _
    (entered c.args.text.now c.args.h c.args.elements.now c.args.params.now c.requires.params_value _ _ c.entry_or-p.ensures) _ _ c.put_turn-w.ensures

pub put_end-requires-clause-fits : goal.put_end-requires-clause-fits
put_end-requires-clause-fits c =
    put_last c.args.text.now c.args.h c.args.elements.now (rows c.args.params.now) c.requires.params_value _ _ _ _ c.loop-w.invariant c.loop-w-test.false

pub put_end-requires-clause-h_value : goal.put_end-requires-clause-h_value
put_end-requires-clause-h_value c = record_suited c.args.text.now c.args.h c.args.elements.now (rows c.args.params.now) c.requires.params_value

pub returns : goal.returns
returns c =
    put_whole c.args.text.now c.args.h c.args.elements.now (rows c.args.params.now) c.requires.params_value _ c.requires.fits _ _ c.put_start-w.ensures _ _
    (put_end c.args.text.now c.args.h c.args.elements.now (rows c.args.params.now) c.requires.params_value _ _ _ _ c.loop-w.invariant c.loop-w-test.false _ _ c.put_end.ensures)
