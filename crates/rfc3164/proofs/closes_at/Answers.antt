use Rattle.std.proofs.Common.{rules}
use Rattle.rfc3164.proofs.Splits.{closes_laws}
use Rattle.rfc3164.proofs.closes_at.Goals as goal

pub returns-then-not-is_at : goal.returns-then-not-is_at
returns-then-not-is_at c = search (closes_laws, rules)

pub overflow_add-result : goal.overflow_add-result
overflow_add-result c = search (closes_laws, rules)

pub returns : goal.returns
returns c = search (closes_laws, rules)
