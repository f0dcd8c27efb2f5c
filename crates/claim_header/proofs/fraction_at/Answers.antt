use Rattle.std.proofs.Common.{rules}
use Rattle.claim_header.proofs.Zones.{fraction_laws}
use Rattle.claim_header.proofs.fraction_at.Goals as goal

pub returns-then-digits-eq0 : goal.returns-then-digits-eq0
returns-then-digits-eq0 c = search (fraction_laws, rules)

pub unit-requires : goal.unit-requires
unit-requires c = search (fraction_laws, rules)

pub nonzero_div-nanos : goal.nonzero_div-nanos
nonzero_div-nanos c = search (fraction_laws, rules)

pub marked_at-requires : goal.marked_at-requires
marked_at-requires c = search (fraction_laws, rules)

pub returns : goal.returns
returns c = search (fraction_laws, rules)
