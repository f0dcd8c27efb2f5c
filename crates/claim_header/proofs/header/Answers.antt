use Rattle.std.proofs.Common.{rules}
use Rattle.claim_header.proofs.Texts.{header_laws}
use Rattle.claim_header.proofs.header.Goals as goal

pub stamp-requires-clause-stamp_value : goal.stamp-requires-clause-stamp_value
stamp-requires-clause-stamp_value c = search (header_laws, rules)

pub text-requires : goal.text-requires
text-requires c = search (header_laws, rules)

pub names-requires-clause-len_in_bounds : goal.names-requires-clause-len_in_bounds
names-requires-clause-len_in_bounds c = search (header_laws, rules)

pub names-requires-clause-len_in_bounds_2 : goal.names-requires-clause-len_in_bounds_2
names-requires-clause-len_in_bounds_2 c = search (header_laws, rules)

pub names-requires-clause-len_in_bounds_3 : goal.names-requires-clause-len_in_bounds_3
names-requires-clause-len_in_bounds_3 c = search (header_laws, rules)
