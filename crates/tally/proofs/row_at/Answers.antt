use Rattle.std.proofs.Common.{rules}
use Rattle.tally.proofs.Calls.{row_refused, row_is}
use Rattle.tally.proofs.row_at.Goals as goal

pub returns-in_err-demand : goal.returns-in_err-demand
returns-in_err-demand c = search (row_refused, rules)

pub returns : goal.returns
returns c = search (row_is, rules)
