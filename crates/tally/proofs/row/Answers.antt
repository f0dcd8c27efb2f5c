use Rattle.std.proofs.Common.{rules}
use Rattle.tally.proofs.Calls.{row_whole}
use Rattle.tally.proofs.row.Goals as goal

pub returns : goal.returns
returns c = search (row_whole, rules)
