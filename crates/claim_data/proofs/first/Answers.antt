use Rattle.std.proofs.Common.{rules}
use Rattle.claim_data.proofs.Walks.{first_laws}
use Rattle.claim_data.proofs.first.Goals as goal

pub returns-then-ids-eq0 : goal.returns-then-ids-eq0
returns-then-ids-eq0 c = search (first_laws, rules)

pub bounds-ids-0 : goal.bounds-ids-0
bounds-ids-0 c = search (first_laws, rules)

pub id-requires : goal.id-requires
id-requires c = search (first_laws, rules)

pub returns : goal.returns
returns c = search (first_laws, rules)
