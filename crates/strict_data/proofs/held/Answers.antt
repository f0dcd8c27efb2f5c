use Rattle.std.proofs.Common.{rules}
use Rattle.strict_data.proofs.Entries.{held_laws}
use Rattle.strict_data.proofs.held.Goals as goal

pub overflow_add-result-2 : goal.overflow_add-result-2
overflow_add-result-2 c = search (held_laws, rules)

pub overflow_add-result-3 : goal.overflow_add-result-3
overflow_add-result-3 c = search (held_laws, rules)

pub returns : goal.returns
returns c = search (held_laws, rules)
