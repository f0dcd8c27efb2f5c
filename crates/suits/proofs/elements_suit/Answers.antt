use Rattle.std.proofs.Common.{rules}
use Rattle.suits.proofs.Tests.{elements_laws}
use Rattle.suits.proofs.elements_suit.Goals as goal

pub returns-then-not-place_suits : goal.returns-then-not-place_suits
returns-then-not-place_suits c = search (elements_laws, rules)

pub loop-row-preserved : goal.loop-row-preserved
loop-row-preserved c = search (elements_laws, rules)

pub returns : goal.returns
returns c = search (elements_laws, rules)
