use Rattle.record.specs.Params.{rows}
use Rattle.record.proofs.Params.{rows_length}
use Rattle.loose.proofs.Readings.{served, fillable, reads_filled}
use Rattle.loose.proofs.read.Goals as goal

pub fill-requires : goal.fill-requires
fill-requires c =
    let s = served c.args.line.now c.args.variant c.args.year c.args.offset c.ranges.offset c.args.elements.now (rows c.args.params.now) c.judge-judged.result (rw (rows_length c.args.params.now) c.judge-judged.ensures) in
    fillable s

pub returns : goal.returns
returns c =
    let s = served c.args.line.now c.args.variant c.args.year c.args.offset c.ranges.offset c.args.elements.now (rows c.args.params.now) c.judge-judged.result (rw (rows_length c.args.params.now) c.judge-judged.ensures) in
    rw c.reading_of.ensures (reads_filled s c.fill.new.elements (rows c.fill.new.params) c.fill.ensures)
