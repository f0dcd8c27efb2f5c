use Rattle.std.proofs.Common.{rules}
use Rattle.writer_data.proofs.Steps.{measure_param_laws, param_fitting, param_to}
use Rattle.writer_data.proofs.measure_param.Goals as goal

pub returns-then-not-param_fits : goal.returns-then-not-param_fits
returns-then-not-param_fits c = search (measure_param_laws, rules)

pub param_size-requires-clause-p_value : goal.param_size-requires-clause-p_value
param_size-requires-clause-p_value c = search (param_fitting, rules)

pub add-at-requires-clause-b_bound : goal.add-at-requires-clause-b_bound
add-at-requires-clause-b_bound c = search (param_to, rules)

pub overflow_add-result : goal.overflow_add-result
overflow_add-result c = search (measure_param_laws, rules)

pub returns : goal.returns
returns c = search (measure_param_laws, rules)
