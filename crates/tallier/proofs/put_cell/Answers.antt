use Rattle.std.proofs.Common.{rules}
use Rattle.tallier.proofs.Texts.{cell_laws}
use Rattle.tallier.proofs.put_cell.Goals as goal

pub returns-then-n-eq0-clause-wrote : goal.returns-then-n-eq0-clause-wrote
returns-then-n-eq0-clause-wrote c = search (cell_laws, rules)

pub returns-else-n-eq0-clause-wrote : goal.returns-else-n-eq0-clause-wrote
returns-else-n-eq0-clause-wrote c = search (cell_laws, rules)
