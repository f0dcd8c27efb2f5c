use Rattle.std.proofs.Common.{rules}
use Rattle.claim_data.proofs.Walks.{turn_laws}
use Rattle.claim_data.proofs.turn.Goals as goal

pub returns-in_err-b : goal.returns-in_err-b
returns-in_err-b c = let h = c.in_err-b.was in rw c.from_residual.ensures (search (turn_laws, rules))

pub returns : goal.returns
returns c = let h = c.in_ok-b.was in search (turn_laws, rules)
