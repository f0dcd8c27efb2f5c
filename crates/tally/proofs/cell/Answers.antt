use Rattle.std.proofs.Common.{rules}
use Rattle.tally.proofs.Calls.{cell_whole}
use Rattle.tally.proofs.cell.Goals as goal

pub returns : goal.returns
returns c = search (cell_whole, rules)
