use Rattle.std.proofs.Common.{rules}
use Rattle.comparer.proofs.Texts.{elements_laws}
use Rattle.comparer.proofs.put_elements.Goals as goal

pub returns-then-is_odd-clause-wrote : goal.returns-then-is_odd-clause-wrote
returns-then-is_odd-clause-wrote c = search (elements_laws, rules)

pub returns-then-is_odd-clause-upper_bound : goal.returns-then-is_odd-clause-upper_bound
returns-then-is_odd-clause-upper_bound c = search (elements_laws, rules)

pub returns-then-is_odd-clause-out_len_unchanged : goal.returns-then-is_odd-clause-out_len_unchanged
returns-then-is_odd-clause-out_len_unchanged c = search (elements_laws, rules)

pub returns-else-is_odd-clause-wrote : goal.returns-else-is_odd-clause-wrote
returns-else-is_odd-clause-wrote c = search (elements_laws, rules)

pub returns-else-is_odd-clause-upper_bound : goal.returns-else-is_odd-clause-upper_bound
returns-else-is_odd-clause-upper_bound c = search (elements_laws, rules)

pub returns-else-is_odd-clause-out_len_unchanged : goal.returns-else-is_odd-clause-out_len_unchanged
returns-else-is_odd-clause-out_len_unchanged c = search (elements_laws, rules)
