use Rattle.std.proofs.Common.{rules}
use Rattle.comparer.proofs.Texts.{done_laws}
use Rattle.comparer.proofs.put_fields.Goals as goal

pub returns-clause-wrote : goal.returns-clause-wrote
returns-clause-wrote c = search (done_laws, rules)

pub returns-clause-upper_bound : goal.returns-clause-upper_bound
returns-clause-upper_bound c = search (done_laws, rules)

pub returns-clause-out_len_unchanged : goal.returns-clause-out_len_unchanged
returns-clause-out_len_unchanged c = search (done_laws, rules)
