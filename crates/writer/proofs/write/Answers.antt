use Rattle.std.proofs.Common.{◌≡◌, true, false}
use Rattle.record.specs.Params.{rows}
use Rattle.writer.proofs.Putting.{suits_as, write_unsuited, write_done, write_refused}
use Rattle.writer.proofs.write.Goals as goal

pub returns-then-is_written : goal.returns-then-is_written
returns-then-is_written c =
    let y = suits_as c.args.text.now c.args.h c.args.elements.now (rows c.args.params.now) _ c.record_in-r.ensures _ c.is_suitable.ensures true c.if-is_suitable.true in
    write_done c.args.text.now c.args.h c.args.elements.now (rows c.args.params.now) c.args.output.now y _ c.measure-w.ensures _ c.is_written.ensures c.if-is_written.true _ _ c.put_line.ensures _ c.answer.ensures

pub returns-then-is_suitable : goal.returns-then-is_suitable
returns-then-is_suitable c =
    let y = suits_as c.args.text.now c.args.h c.args.elements.now (rows c.args.params.now) _ c.record_in-r.ensures _ c.is_suitable.ensures true c.if-is_suitable.true in
    write_refused c.args.text.now c.args.h c.args.elements.now (rows c.args.params.now) c.args.output.now y _ c.measure-w.ensures _ c.is_written.ensures c.if-is_written.false _ c.answer-then-is_suitable.ensures

pub returns : goal.returns
returns c =
    let y = suits_as c.args.text.now c.args.h c.args.elements.now (rows c.args.params.now) _ c.record_in-r.ensures _ c.is_suitable.ensures false c.if-is_suitable.false in
    rw c.unsuitable.ensures (write_unsuited c.args.text.now c.args.h c.args.elements.now (rows c.args.params.now) c.args.output.now y)
