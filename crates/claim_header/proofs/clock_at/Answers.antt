use Rattle.std.proofs.Common.{rules}
use Rattle.claim_header.proofs.Zones.{piece_laws}
use Rattle.claim_header.proofs.clock_at.Goals as goal

pub date_at-requires : goal.date_at-requires
date_at-requires c = search (piece_laws, rules)

pub overflow_add-at : goal.overflow_add-at
overflow_add-at c = search (piece_laws, rules)

pub time_at-requires : goal.time_at-requires
time_at-requires c = search (piece_laws, rules)

pub returns : goal.returns
returns c = search (piece_laws, rules)
