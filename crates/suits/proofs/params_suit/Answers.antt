use Rattle.std.proofs.Common.{rules}
use Rattle.suits.proofs.Tests.{params_laws}
use Rattle.suits.proofs.params_suit.Goals as goal

pub returns-then-not-param_suits : goal.returns-then-not-param_suits
returns-then-not-param_suits c = search (params_laws, rules)

pub loop-p-preserved : goal.loop-p-preserved
loop-p-preserved c = search (params_laws, rules)

pub returns : goal.returns
returns c = search (params_laws, rules)
