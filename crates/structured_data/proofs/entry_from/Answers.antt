use Rattle.std.proofs.Common.{rules}
use Rattle.structured_data.proofs.Entries.{entry_laws}
use Rattle.structured_data.proofs.entry_from.Goals as goal

pub returns-in_default : goal.returns-in_default
returns-in_default c = search (entry_laws, rules)

pub overflow_add-row : goal.overflow_add-row
overflow_add-row c = search (entry_laws, rules)

pub overflow_add-result : goal.overflow_add-result
overflow_add-result c = search (entry_laws, rules)

pub returns : goal.returns
returns c = search (entry_laws, rules)
