use Rattle.std.proofs.Common.{rules}
use Rattle.writer.proofs.Covered.{measure_laws}
use Rattle.writer.proofs.measure_turn.Goals as goal

pub measure_step-requires-clause-rows_value : goal.measure_step-requires-clause-rows_value
measure_step-requires-clause-rows_value c = search (measure_laws, rules)

pub measure_step-requires-clause-element_in_bounds : goal.measure_step-requires-clause-element_in_bounds
measure_step-requires-clause-element_in_bounds c = search (measure_laws, rules)

pub returns : goal.returns
returns c = search (measure_laws, rules)
