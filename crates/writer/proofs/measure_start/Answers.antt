use Rattle.std.proofs.Common.{rules}
use Rattle.writer.proofs.Covered.{begin_laws}
use Rattle.writer.proofs.measure_start.Goals as goal

pub start-requires-clause-rows_value : goal.start-requires-clause-rows_value
start-requires-clause-rows_value c = search (begin_laws, rules)

pub returns : goal.returns
returns c = search (begin_laws, rules)
