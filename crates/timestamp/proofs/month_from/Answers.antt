use Rattle.std.proofs.Common.{rules}
use Rattle.timestamp.proofs.Months.{name_laws}
use Rattle.timestamp.proofs.month_from.Goals as goal

pub returns-then-s-at-lt3 : goal.returns-then-s-at-lt3
returns-then-s-at-lt3 c = search (name_laws, rules)

pub returns-then-month-eq0 : goal.returns-then-month-eq0
returns-then-month-eq0 c = search (name_laws, rules)

pub returns : goal.returns
returns c = search (name_laws, rules)
