use Rattle.std.proofs.Common.{rules}
use Rattle.ids.proofs.Many.{gather_laws}
use Rattle.ids.proofs.gather.Goals as goal

pub loop-i-init : goal.loop-i-init
loop-i-init c = search (gather_laws, rules)

pub returns-then-most-end : goal.returns-then-most-end
returns-then-most-end c = search (gather_laws, rules)

pub loop-i-preserved : goal.loop-i-preserved
loop-i-preserved c = search (gather_laws, rules)
