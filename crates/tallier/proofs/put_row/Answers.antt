use Rattle.std.proofs.Common.{rules}
use Rattle.tallier.proofs.Texts.{row_laws}
use Rattle.tallier.proofs.put_row.Goals as goal

pub loop-j-init : goal.loop-j-init
loop-j-init c = search (row_laws, rules)

pub put_cell-next-requires : goal.put_cell-next-requires
put_cell-next-requires c = search (row_laws, rules)

pub loop-j-preserved : goal.loop-j-preserved
loop-j-preserved c = search (row_laws, rules)

pub returns-clause-wrote : goal.returns-clause-wrote
returns-clause-wrote c = search (row_laws, rules)

pub returns-clause-upper_bound : goal.returns-clause-upper_bound
returns-clause-upper_bound c = search (row_laws, rules)
