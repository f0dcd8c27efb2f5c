use Rattle.std.proofs.Common.{rules}
use Rattle.claim_header.proofs.Zones.{piece_laws}
use Rattle.claim_header.proofs.hours_at.Goals as goal

pub digits_at-requires : goal.digits_at-requires
digits_at-requires c = search (piece_laws, rules)

pub overflow_add-at : goal.overflow_add-at
overflow_add-at c = search (piece_laws, rules)

pub marked_at-requires : goal.marked_at-requires
marked_at-requires c = search (piece_laws, rules)

pub returns : goal.returns
returns c = search (piece_laws, rules)
