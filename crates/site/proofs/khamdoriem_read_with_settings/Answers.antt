use Rattle.record.specs.Params.{rows}
use Rattle.record.proofs.Params.{rows_length}
use Rattle.site.proofs.Calls.{leaves_short, leaves_all}
use Rattle.site.proofs.khamdoriem_read_with_settings.Goals as goal

pub returns-then-room-lt-RECORD_SIZE : goal.returns-then-room-lt-RECORD_SIZE
returns-then-room-lt-RECORD_SIZE c =
    leaves_short c.args.file.now c.args.gate c.args.line.now c.args.elements.now (rows c.args.params.now) c.args.memory.now c.if-room-lt-RECORD_SIZE.true
    c.answer.result (rw (rows_length c.args.params.now) c.answer.ensures) c.short.result c.short.ensures

pub returns : goal.returns
returns c =
    leaves_all c.args.file.now c.args.gate c.args.line.now c.args.elements.now (rows c.args.params.now) c.args.memory.now c.if-room-lt-RECORD_SIZE.false
    c.read-r.result c.read-r.new.elements (rows c.read-r.new.params) c.read-r.ensures c.leave.result c.leave.new.memory c.leave.ensures
