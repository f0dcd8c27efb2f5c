use Rattle.std.proofs.Common.{rules}
use Rattle.strict_data.proofs.Entries.{entry_laws}
use Rattle.strict_data.proofs.next.Goals as goal

pub overflow_add-result : goal.overflow_add-result
overflow_add-result c = search (entry_laws, rules)

pub overflow_add-result-then-is_at : goal.overflow_add-result-then-is_at
overflow_add-result-then-is_at c = search (entry_laws, rules)

pub returns-then-is_at : goal.returns-then-is_at
returns-then-is_at c = search (entry_laws, rules)

pub held-requires : goal.held-requires
held-requires c = search (entry_laws, rules)

pub returns-then-is_at-2 : goal.returns-then-is_at-2
returns-then-is_at-2 c = search (entry_laws, rules)

pub returns : goal.returns
returns c = search (entry_laws, rules)
