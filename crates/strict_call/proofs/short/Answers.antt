use Rattle.std.proofs.Common.{rules}
use Rattle.exports.proofs.Calls.{strict_laws, short_read}
use Rattle.strict_call.proofs.short.Goals as goal

pub returns-in-Ok : goal.returns-in-Ok
returns-in-Ok c = rw c.strict_read_answer_of.ensures (short_read c.args.line.now c.args.r c.in-Ok.field-0 c.in-Ok.is)

pub returns-in-Err : goal.returns-in-Err
returns-in-Err c = search (strict_laws, rules)
