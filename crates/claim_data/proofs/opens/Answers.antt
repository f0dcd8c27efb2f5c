use Rattle.std.proofs.Common.{rules}
use Rattle.claim_data.proofs.Walks.{opens_laws}
use Rattle.claim_data.proofs.opens.Goals as goal

pub open-requires-clause-row_in_bounds : goal.open-requires-clause-row_in_bounds
open-requires-clause-row_in_bounds c = search (opens_laws, rules)

pub returns-in_err-pos : goal.returns-in_err-pos
returns-in_err-pos c = let h = c.in_err-pos.was in rw c.from_residual.ensures (search (opens_laws, rules))

pub loop-j-preserved : goal.loop-j-preserved
loop-j-preserved c = let h = c.in_ok-pos.was in search (opens_laws, rules)

pub returns : goal.returns
returns c = search (opens_laws, rules)
