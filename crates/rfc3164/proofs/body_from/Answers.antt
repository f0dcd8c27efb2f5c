use Rattle.std.proofs.Common.{rules}
use Rattle.rfc3164.proofs.Lines.{body_laws}
use Rattle.rfc3164.proofs.body_from.Goals as goal

pub tag_end-data-requires : goal.tag_end-data-requires
tag_end-data-requires c = search (body_laws, rules)

pub rest_from-rest-requires : goal.rest_from-rest-requires
rest_from-rest-requires c = search (body_laws, rules)

pub overflow_sub-message : goal.overflow_sub-message
overflow_sub-message c = search (body_laws, rules)

pub returns : goal.returns
returns c = search (body_laws, rules)
