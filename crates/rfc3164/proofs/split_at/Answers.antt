use Rattle.std.proofs.Common.{rules}
use Rattle.rfc3164.proofs.Splits.{split_laws}
use Rattle.rfc3164.proofs.split_at.Goals as goal

pub returns-then-not-is_at : goal.returns-then-not-is_at
returns-then-not-is_at c = search (split_laws, rules)

pub overflow_add-start : goal.overflow_add-start
overflow_add-start c = search (split_laws, rules)

pub past-requires : goal.past-requires
past-requires c = search (split_laws, rules)

pub returns-then-pid-eq0 : goal.returns-then-pid-eq0
returns-then-pid-eq0 c = search (split_laws, rules)

pub overflow_add-start-2 : goal.overflow_add-start-2
overflow_add-start-2 c = search (split_laws, rules)

pub returns-then-not-closes_at : goal.returns-then-not-closes_at
returns-then-not-closes_at c = search (split_laws, rules)

pub returns : goal.returns
returns c = search (split_laws, rules)
