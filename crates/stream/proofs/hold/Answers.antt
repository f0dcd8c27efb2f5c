use Rattle.std.proofs.Common.{rules}
use Rattle.stream.proofs.Amounts.{hold_grew}
use Rattle.stream.proofs.hold.Goals as goal

pub returns : goal.returns
returns c = search (hold_grew, rules)
