use Rattle.std.proofs.Common.{rules}
use Rattle.frames.proofs.States.{keeping_laws}
use Rattle.lister.proofs.advance.Goals as goal

pub returns-clause-task_in_bounds : goal.returns-clause-task_in_bounds
returns-clause-task_in_bounds c = search (keeping_laws, rules)

pub returns-clause-got_in_bounds_2 : goal.returns-clause-got_in_bounds_2
returns-clause-got_in_bounds_2 c = search (keeping_laws, rules)

pub returns-clause-left_lt_left : goal.returns-clause-left_lt_left
returns-clause-left_lt_left c = search (keeping_laws, rules)
