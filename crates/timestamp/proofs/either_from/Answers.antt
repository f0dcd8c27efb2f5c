use Rattle.std.proofs.Common.{rules}
use Rattle.timestamp.proofs.Fixed.{either_laws}
use Rattle.timestamp.proofs.either_from.Goals as goal

pub overflow_add-result : goal.overflow_add-result
overflow_add-result c = search (either_laws, rules)

pub returns-then-is_at : goal.returns-then-is_at
returns-then-is_at c = search (either_laws, rules)

pub returns : goal.returns
returns c = search (either_laws, rules)
