use Rattle.std.proofs.Common.{rules}
use Rattle.stream.proofs.Walks.{counting_on}
use Rattle.stream.proofs.count_front.Goals as goal

pub loop-i-preserved : goal.loop-i-preserved
loop-i-preserved c = search (counting_on, rules)
