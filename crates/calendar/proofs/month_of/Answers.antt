use Rattle.std.proofs.Common.{rules}
use Rattle.calendar.proofs.Walks.{month_laws}
use Rattle.calendar.proofs.month_of.Goals as goal

pub loop-m-init : goal.loop-m-init
loop-m-init c = search (month_laws, rules)

pub returns-then-n-days_of_months : goal.returns-then-n-days_of_months
returns-then-n-days_of_months c = search (month_laws, rules)

pub returns : goal.returns
returns c = search (month_laws, rules)
