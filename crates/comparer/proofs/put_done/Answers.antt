use Rattle.std.proofs.Common.{rules}
use Rattle.comparer.proofs.Texts.{done_laws}
use Rattle.comparer.proofs.put_done.Goals as goal

pub returns-then-d-eq0-clause-wrote : goal.returns-then-d-eq0-clause-wrote
returns-then-d-eq0-clause-wrote c = search (done_laws, rules)

pub returns-then-d-eq0-clause-upper_bound : goal.returns-then-d-eq0-clause-upper_bound
returns-then-d-eq0-clause-upper_bound c = search (done_laws, rules)

pub returns-then-d-eq0-clause-out_len_unchanged : goal.returns-then-d-eq0-clause-out_len_unchanged
returns-then-d-eq0-clause-out_len_unchanged c = search (done_laws, rules)

pub returns-else-d-eq0-clause-wrote : goal.returns-else-d-eq0-clause-wrote
returns-else-d-eq0-clause-wrote c = search (done_laws, rules)

pub returns-else-d-eq0-clause-upper_bound : goal.returns-else-d-eq0-clause-upper_bound
returns-else-d-eq0-clause-upper_bound c = search (done_laws, rules)

pub returns-else-d-eq0-clause-out_len_unchanged : goal.returns-else-d-eq0-clause-out_len_unchanged
returns-else-d-eq0-clause-out_len_unchanged c = search (done_laws, rules)
