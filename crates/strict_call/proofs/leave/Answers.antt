use Rattle.std.proofs.Common.{rules}
use Rattle.exports.proofs.Calls.{strict_laws}
use Rattle.strict_call.proofs.leave.Goals as goal

pub returns-in-Ok : goal.returns-in-Ok
returns-in-Ok c = search (strict_laws, rules)

pub returns-in-Err : goal.returns-in-Err
returns-in-Err c = search (strict_laws, rules)
