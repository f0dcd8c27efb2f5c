use Rattle.std.proofs.Common.{rules}
use Rattle.site.proofs.Answers.{told_laws}
use Rattle.site.proofs.site_answer_of.Goals as goal

pub returns-in-Ok : goal.returns-in-Ok
returns-in-Ok c = search (told_laws, rules)

pub returns-in-Err : goal.returns-in-Err
returns-in-Err c = search (told_laws, rules)
