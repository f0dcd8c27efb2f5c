use Rattle.std.proofs.Common.{rules}
use Rattle.comparer.proofs.Texts.{number_laws}
use Rattle.comparer.proofs.put_spaced.Goals as goal

pub put_number-requires : goal.put_number-requires
put_number-requires c = search (number_laws, rules)

pub returns-clause-wrote : goal.returns-clause-wrote
returns-clause-wrote c = search (number_laws, rules)

pub returns-clause-upper_bound : goal.returns-clause-upper_bound
returns-clause-upper_bound c = search (number_laws, rules)

pub returns-clause-out_len_unchanged : goal.returns-clause-out_len_unchanged
returns-clause-out_len_unchanged c = search (number_laws, rules)
