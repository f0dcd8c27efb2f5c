use Rattle.std.proofs.Common.{rules}
use Rattle.writer_data.proofs.Steps.{id_laws}
use Rattle.writer_data.proofs.id_fits.Goals as goal

pub returns-then-rows-k : goal.returns-then-rows-k
returns-then-rows-k c = search (id_laws, rules)

pub returns : goal.returns
returns c = search (id_laws, rules)
