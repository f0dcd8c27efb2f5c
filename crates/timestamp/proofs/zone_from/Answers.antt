use Rattle.std.proofs.Common.{rules}
use Rattle.timestamp.proofs.Zones.{sign_past, zone_laws}
use Rattle.timestamp.proofs.zone_from.Goals as goal

pub returns-then-is_at : goal.returns-then-is_at
returns-then-is_at c = search (zone_laws, rules)

pub east_from-requires : goal.east_from-requires
east_from-requires c = search (zone_laws, rules)

pub returns-then-is_at-2 : goal.returns-then-is_at-2
returns-then-is_at-2 c = search (zone_laws, rules)

pub west_from-requires : goal.west_from-requires
west_from-requires c = search (sign_past, c.is_at-4.ensures, c.if-is_at-3.true, rules)

pub returns-then-is_at-3 : goal.returns-then-is_at-3
returns-then-is_at-3 c = search (zone_laws, rules)

pub returns : goal.returns
returns c = search (zone_laws, rules)
