use Rattle.std.proofs.Common.{rules}
use Rattle.reach_data.proofs.Items.{element_laws}
use Rattle.reach_data.proofs.element.Goals as goal

pub returns-then-end-at : goal.returns-then-end-at
returns-then-end-at c = search (element_laws, rules)

pub returns-then-end-at-gt32 : goal.returns-then-end-at-gt32
returns-then-end-at-gt32 c = search (element_laws, rules)

pub returns : goal.returns
returns c = search (element_laws, rules)
