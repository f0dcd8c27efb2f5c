use Rattle.std.proofs.Common.{rules}
use Rattle.pairs.specs.Odd.{element_at}
use Rattle.pairs.proofs.Texts.element_at.Goals as goal

pub returns-clause-value : goal.returns-clause-value
unfolding element_at
returns-clause-value c = search rules
