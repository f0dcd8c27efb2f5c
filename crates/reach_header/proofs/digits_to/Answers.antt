use Rattle.std.proofs.Common.{rules}
use Rattle.viable.proofs.Walks.{repeat_laws}
use Rattle.reach_header.proofs.digits_to.Goals as goal

pub returns-then-end-at : goal.returns-then-end-at
returns-then-end-at c = search (repeat_laws, rules)

pub returns-then-most-end : goal.returns-then-most-end
returns-then-most-end c = search (repeat_laws, rules)

pub returns : goal.returns
returns c = search (repeat_laws, rules)
