use Rattle.std.proofs.Common.{rules}
use Rattle.claim_header.proofs.Stamped.{stamp_laws, stamp_ready}
use Rattle.claim_header.proofs.stamp_holds.Goals as goal

pub returns-then-t-gt6 : goal.returns-then-t-gt6
returns-then-t-gt6 c = search (stamp_laws, rules)

pub returns-then-not-p : goal.returns-then-not-p
returns-then-not-p c = search (stamp_laws, rules)

pub returns-then-p-at : goal.returns-then-p-at
returns-then-p-at c = search (stamp_laws, rules)

pub fraction_len-front-requires : goal.fraction_len-front-requires
fraction_len-front-requires c = search (stamp_laws, rules)

pub overflow_add-front : goal.overflow_add-front
overflow_add-front c = search (stamp_laws, rules)

pub overflow_add-zone : goal.overflow_add-zone
overflow_add-zone c = search (stamp_laws, rules)

pub zone_len-requires : goal.zone_len-requires
zone_len-requires c = search (stamp_laws, rules)

pub overflow_add-front-2 : goal.overflow_add-front-2
overflow_add-front-2 c = search (stamp_laws, rules)

pub returns-then-p-front : goal.returns-then-p-front
returns-then-p-front c = search (stamp_laws, rules)

pub stamp_stands-requires : goal.stamp_stands-requires
stamp_stands-requires c = stamp_ready _ _ c.args.p _ c.requires.t_value c.requires.len_in_bounds (search rules) _ c.fraction_len-front.ensures _ c.zone_len.ensures (search rules)

pub returns : goal.returns
returns c = search (stamp_laws, rules)
