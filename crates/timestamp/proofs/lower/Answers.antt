use Rattle.std.proofs.Common.{rules}
use Rattle.timestamp.proofs.Months.{lower_laws}
use Rattle.timestamp.proofs.lower.Goals as goal

pub overflow_add-result : goal.overflow_add-result
overflow_add-result c = search (lower_laws, rules)

pub returns-then-in_range : goal.returns-then-in_range
returns-then-in_range c = search (lower_laws, rules)

pub returns : goal.returns
returns c = search (lower_laws, rules)
