use Rattle.std.proofs.Common.{rules}
use Rattle.tally.proofs.Calls.{add_whole}
use Rattle.tally.proofs.add.Goals as goal

pub returns : goal.returns
returns c = search (add_whole, rules)
