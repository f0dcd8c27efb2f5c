use Rattle.std.proofs.Common.{rules}
use Rattle.writer_data.proofs.Steps.{step_own, step_other}
use Rattle.writer_data.proofs.measure_step.Goals as goal

pub measure_param-requires-clause-p_value : goal.measure_param-requires-clause-p_value
measure_param-requires-clause-p_value c = search (step_own, rules)

pub measure_next-requires-clause-p_value : goal.measure_next-requires-clause-p_value
measure_next-requires-clause-p_value c = search (step_other, rules)
