use Rattle.std.proofs.Common.{rules}
use Rattle.comparer.proofs.Texts.{field_laws}
use Rattle.comparer.proofs.put_levels.Goals as goal

pub returns-clause-wrote : goal.returns-clause-wrote
returns-clause-wrote c = search (field_laws, rules)

pub returns-clause-upper_bound : goal.returns-clause-upper_bound
returns-clause-upper_bound c = search (field_laws, rules)

pub returns-clause-out_len_unchanged : goal.returns-clause-out_len_unchanged
returns-clause-out_len_unchanged c = search (field_laws, rules)
