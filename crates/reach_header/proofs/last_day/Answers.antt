use Rattle.std.proofs.Common.{rules}
use Rattle.reach_header.proofs.Dates.{last_laws}
use Rattle.reach_header.proofs.last_day.Goals as goal

pub returns-then-is_date : goal.returns-then-is_date
returns-then-is_date c = search (last_laws, rules)

pub returns-then-is_date-2 : goal.returns-then-is_date-2
returns-then-is_date-2 c = search (last_laws, rules)

pub returns-then-is_date-3 : goal.returns-then-is_date-3
returns-then-is_date-3 c = search (last_laws, rules)

pub returns : goal.returns
returns c = search (last_laws, rules)
