use Rattle.std.proofs.Common.{rules}
use Rattle.claim_header.proofs.Zones.{zone_laws}
use Rattle.claim_header.proofs.zone_at.Goals as goal

pub offset_parts-o-requires : goal.offset_parts-o-requires
offset_parts-o-requires c = search (zone_laws, rules)

pub is_at-requires : goal.is_at-requires
is_at-requires c = search (zone_laws, rules)

pub returns-then-is_at : goal.returns-then-is_at
returns-then-is_at c = search (zone_laws, rules)

pub sign_at-requires : goal.sign_at-requires
sign_at-requires c = search (zone_laws, rules)

pub returns : goal.returns
returns c = search (zone_laws, rules)
