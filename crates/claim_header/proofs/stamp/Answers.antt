use Rattle.std.proofs.Common.{rules}
use Rattle.claim_header.proofs.Stamped.{stamp_next_laws}
use Rattle.claim_header.proofs.stamp.Goals as goal

pub enum_known-stamp : goal.enum_known-stamp
enum_known-stamp c = search (stamp_next_laws, rules)

pub no_stamp-requires : goal.no_stamp-requires
no_stamp-requires c = search (stamp_next_laws, rules)

pub returns-in_default : goal.returns-in_default
returns-in_default c = search (stamp_next_laws, rules)

pub stamp_holds-requires : goal.stamp_holds-requires
stamp_holds-requires c = search (stamp_next_laws, rules)

pub returns-then-not-stamp_holds : goal.returns-then-not-stamp_holds
returns-then-not-stamp_holds c = search (stamp_next_laws, rules)

pub overflow_add-at : goal.overflow_add-at
overflow_add-at c = search (stamp_next_laws, rules)

pub byte_next-requires : goal.byte_next-requires
byte_next-requires c = search (stamp_next_laws, rules)

pub returns : goal.returns
returns c = search (stamp_next_laws, rules)
