use Rattle.std.proofs.Common.{rules}
use Rattle.claim_header.proofs.Zones.{sign_laws}
use Rattle.claim_header.proofs.sign_at.Goals as goal

pub overflow_add-at : goal.overflow_add-at
overflow_add-at c = search (sign_laws, rules)

pub overflow_add-east : goal.overflow_add-east
overflow_add-east c = search (sign_laws, rules)

pub overflow_cast-east : goal.overflow_cast-east
overflow_cast-east c = search (sign_laws, rules)

pub hours_at-hours-requires : goal.hours_at-hours-requires
hours_at-hours-requires c = search (sign_laws, rules)

pub is_at-requires : goal.is_at-requires
is_at-requires c = search (sign_laws, rules)

pub returns-then-is_at : goal.returns-then-is_at
returns-then-is_at c = search (sign_laws, rules)

pub is_at-requires-2 : goal.is_at-requires-2
is_at-requires-2 c = search (sign_laws, rules)

pub returns : goal.returns
returns c = search (sign_laws, rules)
