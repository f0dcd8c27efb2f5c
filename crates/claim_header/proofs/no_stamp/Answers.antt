use Rattle.std.proofs.Common.{rules}
use Rattle.claim_header.proofs.Stamped.{stamp_next_laws}
use Rattle.claim_header.proofs.no_stamp.Goals as goal

pub returns-then-p : goal.returns-then-p
returns-then-p c = search (stamp_next_laws, rules)

pub is_at-requires : goal.is_at-requires
is_at-requires c = search (stamp_next_laws, rules)

pub returns-then-not-p-is_at : goal.returns-then-not-p-is_at
returns-then-not-p-is_at c = search (stamp_next_laws, rules)

pub overflow_add-at : goal.overflow_add-at
overflow_add-at c = search (stamp_next_laws, rules)

pub byte_next-requires : goal.byte_next-requires
byte_next-requires c = search (stamp_next_laws, rules)

pub returns : goal.returns
returns c = search (stamp_next_laws, rules)
