use Rattle.std.proofs.Common.{rules}
use Rattle.comparer.proofs.Texts.{pair_laws}
use Rattle.comparer.proofs.put_pair.Goals as goal

pub returns-then-number-eq0-clause-wrote : goal.returns-then-number-eq0-clause-wrote
returns-then-number-eq0-clause-wrote c = search (pair_laws, rules)

pub returns-then-number-eq0-clause-upper_bound : goal.returns-then-number-eq0-clause-upper_bound
returns-then-number-eq0-clause-upper_bound c = search (pair_laws, rules)

pub returns-then-number-eq0-clause-out_len_unchanged : goal.returns-then-number-eq0-clause-out_len_unchanged
returns-then-number-eq0-clause-out_len_unchanged c = search (pair_laws, rules)

pub returns-else-number-eq0-clause-wrote : goal.returns-else-number-eq0-clause-wrote
returns-else-number-eq0-clause-wrote c = search (pair_laws, rules)

pub returns-else-number-eq0-clause-upper_bound : goal.returns-else-number-eq0-clause-upper_bound
returns-else-number-eq0-clause-upper_bound c = search (pair_laws, rules)

pub returns-else-number-eq0-clause-out_len_unchanged : goal.returns-else-number-eq0-clause-out_len_unchanged
returns-else-number-eq0-clause-out_len_unchanged c = search (pair_laws, rules)
