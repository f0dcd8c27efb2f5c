use Rattle.std.proofs.Common.{rules}
use Rattle.comparer.proofs.Texts.{answer_laws}
use Rattle.comparer.proofs.put_answer.Goals as goal

pub returns-in-Err-clause-wrote : goal.returns-in-Err-clause-wrote
returns-in-Err-clause-wrote c = search (answer_laws, rules)

pub returns-in-Err-clause-upper_bound : goal.returns-in-Err-clause-upper_bound
returns-in-Err-clause-upper_bound c = search (answer_laws, rules)

pub returns-in-Err-clause-out_len_unchanged : goal.returns-in-Err-clause-out_len_unchanged
returns-in-Err-clause-out_len_unchanged c = search (answer_laws, rules)

pub returns-in-Ok-clause-wrote : goal.returns-in-Ok-clause-wrote
returns-in-Ok-clause-wrote c = search (answer_laws, rules)

pub returns-in-Ok-clause-upper_bound : goal.returns-in-Ok-clause-upper_bound
returns-in-Ok-clause-upper_bound c = search (answer_laws, rules)

pub returns-in-Ok-clause-out_len_unchanged : goal.returns-in-Ok-clause-out_len_unchanged
returns-in-Ok-clause-out_len_unchanged c = search (answer_laws, rules)
