use Rattle.record.specs.Params.{rows}
use Rattle.record.proofs.Params.{rows_length}
use Rattle.exports.proofs.Calls.{loose_short}
use Rattle.loose_call.proofs.khamdoriem_read_loose.Goals as goal

pub returns-then-memory-lt-RECORD_SIZE : goal.returns-then-memory-lt-RECORD_SIZE
returns-then-memory-lt-RECORD_SIZE c =
    loose_short c.args.line.now c.args.variant c.args.year c.args.offset c.ranges.offset c.args.elements.now (rows c.args.params.now) c.args.memory.now
    c.if-memory-lt-RECORD_SIZE.true c.answer.result (rw (rows_length c.args.params.now) c.answer.ensures) c.short.result c.short.ensures
