use Rattle.std.proofs.Common.{rules}
use Rattle.claim_header.proofs.Zones.{piece_laws}
use Rattle.claim_header.proofs.time_at.Goals as goal

pub marked_at-requires : goal.marked_at-requires
marked_at-requires c = search (piece_laws, rules)

pub overflow_add-at : goal.overflow_add-at
overflow_add-at c = search (piece_laws, rules)

pub marked_at-requires-2 : goal.marked_at-requires-2
marked_at-requires-2 c = search (piece_laws, rules)

pub overflow_add-at-2 : goal.overflow_add-at-2
overflow_add-at-2 c = search (piece_laws, rules)

pub marked_at-requires-3 : goal.marked_at-requires-3
marked_at-requires-3 c = search (piece_laws, rules)

pub returns : goal.returns
returns c = search (piece_laws, rules)
