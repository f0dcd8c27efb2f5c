use Rattle.std.proofs.Common.{rules}
use Rattle.tally.proofs.Calls.{column_refused, column_is}
use Rattle.tally.proofs.column_at.Goals as goal

pub returns-in_err-demand : goal.returns-in_err-demand
returns-in_err-demand c = search (column_refused, rules)

pub returns : goal.returns
returns c = search (column_is, rules)
