use Rattle.std.proofs.Common.{rules}
use Rattle.viable.proofs.Walks.{repeat_laws}
use Rattle.reach_data.proofs.name.Goals as goal

pub returns-then-end-at : goal.returns-then-end-at
returns-then-end-at c = search (repeat_laws, rules)

pub returns-then-end-at-gt32 : goal.returns-then-end-at-gt32
returns-then-end-at-gt32 c = search (repeat_laws, rules)

pub returns : goal.returns
returns c = search (repeat_laws, rules)
