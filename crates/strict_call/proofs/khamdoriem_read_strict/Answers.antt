use Rattle.record.specs.Params.{rows}
use Rattle.record.proofs.Params.{rows_length}
use Rattle.exports.proofs.Calls.{strict_short, strict_all}
use Rattle.strict_call.proofs.khamdoriem_read_strict.Goals as goal

pub returns-then-memory-lt-STRICT_SIZE : goal.returns-then-memory-lt-STRICT_SIZE
returns-then-memory-lt-STRICT_SIZE c =
    strict_short c.args.line.now c.args.elements.now (rows c.args.params.now) c.args.memory.now c.if-memory-lt-STRICT_SIZE.true
    c.answer.result (rw rows_length c.answer.ensures) c.short.result c.short.ensures

pub returns : goal.returns
returns c =
    strict_all c.args.line.now c.args.elements.now (rows c.args.params.now) c.args.memory.now c.if-memory-lt-STRICT_SIZE.false
    c.read.result c.read.new.elements (rows c.read.new.params) c.read.ensures c.leave.result c.leave.new.memory c.leave.ensures
