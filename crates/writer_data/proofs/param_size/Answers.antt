use Rattle.std.proofs.Common.{rules}
use Rattle.writer_data.proofs.Steps.{param_sizes}
use Rattle.writer_data.proofs.param_size.Goals as goal

pub overflow_add-name : goal.overflow_add-name
overflow_add-name c = search (param_sizes, rules)

pub overflow_add-name-2 : goal.overflow_add-name-2
overflow_add-name-2 c = search (param_sizes, rules)

pub returns : goal.returns
returns c = search (param_sizes, rules)
