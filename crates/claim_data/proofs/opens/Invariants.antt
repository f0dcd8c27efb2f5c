use Rattle.claim_data.proofs.Walks.{Opening}
use Rattle.claim_data.proofs.opens.Given as goal

abbrev pub invariant-loop-j : goal.invariant-loop-j
invariant-loop-j l = Opening l.line l.at l.ids l.k l.last l.pos l.j
