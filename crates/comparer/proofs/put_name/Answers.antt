use Rattle.std.proofs.Common.{rules}
use Rattle.comparer.proofs.Texts.{name_laws}
use Rattle.comparer.proofs.put_name.Goals as goal

pub returns-then-differs-clause-wrote : goal.returns-then-differs-clause-wrote
returns-then-differs-clause-wrote c = search (name_laws, rules)

pub returns-then-differs-clause-upper_bound : goal.returns-then-differs-clause-upper_bound
returns-then-differs-clause-upper_bound c = search (name_laws, rules)

pub returns-then-differs-clause-out_len_unchanged : goal.returns-then-differs-clause-out_len_unchanged
returns-then-differs-clause-out_len_unchanged c = search (name_laws, rules)

pub returns-else-differs-clause-wrote : goal.returns-else-differs-clause-wrote
returns-else-differs-clause-wrote c = search (name_laws, rules)

pub returns-else-differs-clause-upper_bound : goal.returns-else-differs-clause-upper_bound
returns-else-differs-clause-upper_bound c = search (name_laws, rules)

pub returns-else-differs-clause-out_len_unchanged : goal.returns-else-differs-clause-out_len_unchanged
returns-else-differs-clause-out_len_unchanged c = search (name_laws, rules)
