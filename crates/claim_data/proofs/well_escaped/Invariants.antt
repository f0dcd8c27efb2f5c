use Rattle.claim_data.proofs.Names.{Escaping}
use Rattle.claim_data.proofs.well_escaped.Given as goal

abbrev pub invariant-loop-b : goal.invariant-loop-b
invariant-loop-b l = Escaping l.t l.paired l.b-index
