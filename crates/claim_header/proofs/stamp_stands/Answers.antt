use Rattle.std.proofs.Common.{rules}
use Rattle.claim_header.proofs.Stamped.{stands_laws}
use Rattle.claim_header.proofs.stamp_stands.Goals as goal

pub shown_at-requires : goal.shown_at-requires
shown_at-requires c = search (stands_laws, rules)

pub enum_known-clock : goal.enum_known-clock
enum_known-clock c = search (stands_laws, rules)

pub returns-in_default : goal.returns-in_default
returns-in_default c = search (stands_laws, rules)

pub clock_at-requires : goal.clock_at-requires
clock_at-requires c = search (stands_laws, rules)

pub overflow_add-at : goal.overflow_add-at
overflow_add-at c = search (stands_laws, rules)

pub fraction_at-requires : goal.fraction_at-requires
fraction_at-requires c = search (stands_laws, rules)

pub zone_at-requires : goal.zone_at-requires
zone_at-requires c = search (stands_laws, rules)

pub returns : goal.returns
returns c = search (stands_laws, rules)
