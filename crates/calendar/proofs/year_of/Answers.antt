use Rattle.std.proofs.Common.{rules}
use Rattle.calendar.proofs.Walks.{year_laws}
use Rattle.calendar.proofs.year_of.Goals as goal

pub loop-y-init : goal.loop-y-init
loop-y-init c = search (year_laws, rules)

pub returns-then-n-days_before_year : goal.returns-then-n-days_before_year
returns-then-n-days_before_year c = search (year_laws, rules)

pub returns : goal.returns
returns c = search (year_laws, rules)
