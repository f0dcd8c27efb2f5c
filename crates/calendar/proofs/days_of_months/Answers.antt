use Rattle.std.proofs.Common.{rules}
use Rattle.calendar.proofs.Walks.{months_at}
use Rattle.calendar.proofs.days_of_months.Goals as goal

pub returns : goal.returns
returns c = search (months_at, rules)
