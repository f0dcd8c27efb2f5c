use Rattle.std.proofs.Common.{rules}
use Rattle.writer.proofs.Covered.{settle_laws, settle_named}
use Rattle.writer.proofs.settle.Goals as goal

pub returns-then-not-w : goal.returns-then-not-w
returns-then-not-w c = search (settle_laws, rules)

pub ids_differ-requires-clause-rows_value_2 : goal.ids_differ-requires-clause-rows_value_2
ids_differ-requires-clause-rows_value_2 c = search (settle_named, rules)

pub returns-then-ids_differ : goal.returns-then-ids_differ
returns-then-ids_differ c = search (settle_laws, rules)

pub returns : goal.returns
returns c = search (settle_laws, rules)
