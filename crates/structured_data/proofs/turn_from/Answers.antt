use Rattle.std.proofs.Common.{rules}
use Rattle.structured_data.proofs.Turning.{turn_laws}
use Rattle.structured_data.proofs.turn_from.Goals as goal

pub returns-then-id-eq0 : goal.returns-then-id-eq0
returns-then-id-eq0 c = search (turn_laws, rules)

pub returns-then-not-is_at : goal.returns-then-not-is_at
returns-then-not-is_at c = search (turn_laws, rules)

pub returns-then-ends_list-count : goal.returns-then-ends_list-count
returns-then-ends_list-count c = search (turn_laws, rules)

pub overflow_add-result : goal.overflow_add-result
overflow_add-result c = search (turn_laws, rules)

pub returns : goal.returns
returns c = search (turn_laws, rules)
