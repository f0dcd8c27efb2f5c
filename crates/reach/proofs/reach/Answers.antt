use Rattle.std.proofs.Common.{rules}
use Rattle.reach.proofs.Lines.{report_laws}
use Rattle.reach.proofs.reach.Goals as goal

pub returns-then-line-gt-LINE_LIMIT : goal.returns-then-line-gt-LINE_LIMIT
returns-then-line-gt-LINE_LIMIT c = search (report_laws, rules)

pub returns-in-Ok : goal.returns-in-Ok
returns-in-Ok c = search (report_laws, rules)

pub returns-in-Err : goal.returns-in-Err
returns-in-Err c = search (report_laws, rules)
