use Rattle.std.proofs.Common.{rules}
use Rattle.tallier.proofs.Texts.{tally_laws}
use Rattle.tallier.proofs.put_tally.Goals as goal

pub loop-i-init : goal.loop-i-init
loop-i-init c = search (tally_laws, rules)

pub put_row-next-requires-clause-at_in_bounds : goal.put_row-next-requires-clause-at_in_bounds
put_row-next-requires-clause-at_in_bounds c = search (tally_laws, rules)

pub loop-i-preserved : goal.loop-i-preserved
loop-i-preserved c = search (tally_laws, rules)

pub returns-clause-wrote : goal.returns-clause-wrote
returns-clause-wrote c = search (tally_laws, rules)

pub returns-clause-upper_bound : goal.returns-clause-upper_bound
returns-clause-upper_bound c = search (tally_laws, rules)
