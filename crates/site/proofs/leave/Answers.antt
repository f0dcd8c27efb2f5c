use Rattle.std.proofs.Common.{rules}
use Rattle.site.proofs.Answers.{left_laws}
use Rattle.site.proofs.leave.Goals as goal

pub returns-in_default : goal.returns-in_default
returns-in_default c = search (left_laws, rules)

pub returns : goal.returns
returns c = search (left_laws, rules)
