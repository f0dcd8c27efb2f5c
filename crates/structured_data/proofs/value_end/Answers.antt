use Rattle.std.proofs.Common.{rules}
use Rattle.structured_data.proofs.Params.{value_laws}
use Rattle.structured_data.proofs.value_end.Goals as goal

pub returns-then-not-is_at : goal.returns-then-not-is_at
returns-then-not-is_at c = search (value_laws, rules)

pub overflow_add-end : goal.overflow_add-end
overflow_add-end c = search (value_laws, rules)

pub overflow_add-quote : goal.overflow_add-quote
overflow_add-quote c = search (value_laws, rules)

pub past-requires : goal.past-requires
past-requires c = search (value_laws, rules)

pub overflow_add-end-2 : goal.overflow_add-end-2
overflow_add-end-2 c = search (value_laws, rules)

pub returns-then-not-is_at-2 : goal.returns-then-not-is_at-2
returns-then-not-is_at-2 c = search (value_laws, rules)

pub returns : goal.returns
returns c = search (value_laws, rules)
