use Rattle.record.specs.Params.{rows}
use Rattle.writer.proofs.Walks.{record_suited, rows_suited, table_counted, entered, entry_in, walk_start, walk_at_lem, walk_on, walk_less, walk_named, walk_end}
use Rattle.writer.proofs.measure.Goals as goal

pub measure_start-w-requires-clause-h_value : goal.measure_start-w-requires-clause-h_value
measure_start-w-requires-clause-h_value c = record_suited c.args.text.now c.args.h c.args.elements.now (rows c.args.params.now) c.requires

pub measure_start-w-requires-clause-rows : goal.measure_start-w-requires-clause-rows
measure_start-w-requires-clause-rows c = rows_suited c.args.text.now c.args.h c.args.elements.now (rows c.args.params.now) c.requires

pub loop-w-init : goal.loop-w-init
loop-w-init c = walk_start c.args.text.now c.args.h c.args.elements.now (rows c.args.params.now) c.requires _ c.measure_start-w.ensures

pub entry_or-p-requires : goal.entry_or-p-requires
entry_or-p-requires c = table_counted c.args.text.now c.args.h c.args.elements.now c.args.params.now c.requires

pub measure_turn-w-requires-clause-rows : goal.measure_turn-w-requires-clause-rows
measure_turn-w-requires-clause-rows c = rows_suited c.args.text.now c.args.h c.args.elements.now (rows c.args.params.now) c.requires

pub measure_turn-w-requires-clause-entry : goal.measure_turn-w-requires-clause-entry
measure_turn-w-requires-clause-entry c = entry_in c.args.text.now c.args.h c.args.elements.now c.args.params.now c.requires _ _ c.entry_or-p.ensures

pub measure_turn-w-requires-clause-at_bound : goal.measure_turn-w-requires-clause-at_bound
measure_turn-w-requires-clause-at_bound c =
    walk_at_lem c.args.text.now c.args.h c.args.elements.now (rows c.args.params.now) c.requires _ c.loop-w.invariant c.loop-w-test.true

pub loop-w-smaller : goal.loop-w-smaller
loop-w-smaller c =
    walk_less c.args.text.now c.args.h c.args.elements.now (rows c.args.params.now) c.requires _ c.loop-w.invariant c.loop-w-test.true _
    (entered c.args.text.now c.args.h c.args.elements.now c.args.params.now c.requires _ _ c.entry_or-p.ensures) _ c.measure_turn-w.ensures

pub loop-w-preserved : goal.loop-w-preserved
loop-w-preserved c =
    walk_on c.args.text.now c.args.h c.args.elements.now (rows c.args.params.now) c.requires _ c.loop-w.invariant c.loop-w-test.true _
    (entered c.args.text.now c.args.h c.args.elements.now c.args.params.now c.requires _ _ c.entry_or-p.ensures) _ c.measure_turn-w.ensures

pub measure_end-requires-clause-rows : goal.measure_end-requires-clause-rows
measure_end-requires-clause-rows c = rows_suited c.args.text.now c.args.h c.args.elements.now (rows c.args.params.now) c.requires

pub measure_end-requires-clause-named : goal.measure_end-requires-clause-named
measure_end-requires-clause-named c = walk_named c.args.text.now c.args.h c.args.elements.now (rows c.args.params.now) c.requires _ c.loop-w.invariant c.loop-w-test.false

pub returns : goal.returns
returns c = walk_end c.args.text.now c.args.h c.args.elements.now (rows c.args.params.now) c.requires _ c.loop-w.invariant c.loop-w-test.false _ c.measure_end.ensures
