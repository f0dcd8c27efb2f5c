use Rattle.std.proofs.Common.{rules}
use Rattle.frames.proofs.Words.{count_laws}
use Rattle.frames.proofs.put_count.Goals as goal

pub put_number-next-requires : goal.put_number-next-requires
put_number-next-requires c = search (count_laws, rules)

pub put-requires : goal.put-requires
put-requires c = search (count_laws, rules)

pub returns-clause-wrote : goal.returns-clause-wrote
returns-clause-wrote c = search (count_laws, rules)

pub returns-clause-upper_bound : goal.returns-clause-upper_bound
returns-clause-upper_bound c = search (count_laws, rules)
