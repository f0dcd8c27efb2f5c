use Rattle.std.proofs.Common.{rules}
use Rattle.writer.proofs.Covered.{end_laws}
use Rattle.writer.proofs.measure_end.Goals as goal

pub settle-requires-clause-rows_value : goal.settle-requires-clause-rows_value
settle-requires-clause-rows_value c = search (end_laws, rules)

pub settle-requires-clause-named : goal.settle-requires-clause-named
settle-requires-clause-named c = search (end_laws, rules)

pub returns : goal.returns
returns c = search (end_laws, rules)
