use Rattle.std.proofs.Common.{rules}
use Rattle.structured_data.proofs.Turning.{stop_laws}
use Rattle.structured_data.proofs.stop_from.Goals as goal

pub returns-then-dead-at : goal.returns-then-dead-at
returns-then-dead-at c = search (stop_laws, rules)

pub overflow_add-end : goal.overflow_add-end
overflow_add-end c = search (stop_laws, rules)

pub returns-then-dead-end : goal.returns-then-dead-end
returns-then-dead-end c = search (stop_laws, rules)

pub returns : goal.returns
returns c = search (stop_laws, rules)
