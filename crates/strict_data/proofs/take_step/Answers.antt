use Rattle.std.proofs.Common.{rules}
use Rattle.strict_data.proofs.Steps.{step_laws}
use Rattle.strict_data.proofs.take_step.Goals as goal

pub offset_bounds-elements-opened : goal.offset_bounds-elements-opened
offset_bounds-elements-opened c = search (step_laws, rules)

pub bounds-elements-opened : goal.bounds-elements-opened
bounds-elements-opened c = search (step_laws, rules)

pub overflow_add-result : goal.overflow_add-result
overflow_add-result c = search (step_laws, rules)

pub returns-then-s : goal.returns-then-s
returns-then-s c = search (step_laws, rules)

pub overflow_sub-row : goal.overflow_sub-row
overflow_sub-row c = search (step_laws, rules)

pub overflow_add-row-then-s-2 : goal.overflow_add-row-then-s-2
overflow_add-row-then-s-2 c = search (step_laws, rules)

pub overflow_add-row-then-s-2-2 : goal.overflow_add-row-then-s-2-2
overflow_add-row-then-s-2-2 c = search (step_laws, rules)

pub returns-then-s-2 : goal.returns-then-s-2
returns-then-s-2 c = search (step_laws, rules)

pub returns : goal.returns
returns c = search (step_laws, rules)
