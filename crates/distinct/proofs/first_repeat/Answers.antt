use Rattle.std.proofs.Common.{rules}
use Rattle.distinct.proofs.Trees.{tree_grows}
use Rattle.distinct.proofs.first_repeat.Goals as goal

pub loop-i-preserved : goal.loop-i-preserved
loop-i-preserved c = search (tree_grows, rules)
