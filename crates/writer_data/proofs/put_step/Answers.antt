use Rattle.std.proofs.Common.{rules}
use Rattle.writer_data.proofs.Steps.{put_step_laws, step_param_fits, step_next_fits}
use Rattle.writer_data.proofs.put_step.Goals as goal

pub put_param-at-requires-clause-fits : goal.put_param-at-requires-clause-fits
put_param-at-requires-clause-fits c = search (step_param_fits, rules)

pub overflow_add-result : goal.overflow_add-result
overflow_add-result c = search (put_step_laws, rules)

pub returns-then-is_own : goal.returns-then-is_own
returns-then-is_own c = search (put_step_laws, rules)

pub put_next-at-requires-clause-fits : goal.put_next-at-requires-clause-fits
put_next-at-requires-clause-fits c = search (step_next_fits, rules)

pub returns : goal.returns
returns c = search (put_step_laws, rules)
