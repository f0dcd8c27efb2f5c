use Rattle.std.proofs.Common.{rules}
use Rattle.claim_data.proofs.Walks.{last_laws}
use Rattle.claim_data.proofs.last.Goals as goal

pub returns-then-ids-eq0 : goal.returns-then-ids-eq0
returns-then-ids-eq0 c = search (last_laws, rules)

pub returns-in_err-b : goal.returns-in_err-b
returns-in_err-b c = let h = c.in_err-b.was in rw c.from_residual.ensures (search (last_laws, rules))

pub returns : goal.returns
returns c = let h = c.in_ok-b.was in search (last_laws, rules)
