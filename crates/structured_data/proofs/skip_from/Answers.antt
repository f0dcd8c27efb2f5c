use Rattle.std.proofs.Common.{rules}
use Rattle.structured_data.proofs.Items.{skip_laws}
use Rattle.structured_data.proofs.skip_from.Goals as goal

pub returns-then-ends_list : goal.returns-then-ends_list
returns-then-ends_list c = search (skip_laws, rules)

pub returns-then-not-is_at : goal.returns-then-not-is_at
returns-then-not-is_at c = search (skip_laws, rules)

pub past-requires : goal.past-requires
past-requires c = search (skip_laws, rules)

pub overflow_add-end : goal.overflow_add-end
overflow_add-end c = search (skip_laws, rules)

pub returns-then-not-is_at-2 : goal.returns-then-not-is_at-2
returns-then-not-is_at-2 c = search (skip_laws, rules)

pub overflow_add-result : goal.overflow_add-result
overflow_add-result c = search (skip_laws, rules)

pub returns : goal.returns
returns c = search (skip_laws, rules)
