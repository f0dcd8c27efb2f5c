use Rattle.std.proofs.Common.{rules}
use Rattle.settings.proofs.Writing.{zeros_laws}
use Rattle.settings.proofs.put_zeros.Goals as goal

pub loop-i-preserved : goal.loop-i-preserved
loop-i-preserved c = search (zeros_laws, rules)

pub returns : goal.returns
returns c = search (zeros_laws, rules)
