use Rattle.std.proofs.Common.{rules}
use Rattle.tally.proofs.Calls.{column_whole}
use Rattle.tally.proofs.column.Goals as goal

pub returns : goal.returns
returns c = search (column_whole, rules)
