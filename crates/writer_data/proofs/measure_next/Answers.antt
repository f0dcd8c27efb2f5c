use Rattle.std.proofs.Common.{rules}
use Rattle.writer_data.proofs.Steps.{measure_next_laws, next_fitting}
use Rattle.writer_data.proofs.measure_next.Goals as goal

pub returns-then-not-id_fits : goal.returns-then-not-id_fits
returns-then-not-id_fits c = search (measure_next_laws, rules)

pub next_size-requires-clause-k_value : goal.next_size-requires-clause-k_value
next_size-requires-clause-k_value c = search (next_fitting, rules)

pub returns : goal.returns
returns c = search (measure_next_laws, rules)
