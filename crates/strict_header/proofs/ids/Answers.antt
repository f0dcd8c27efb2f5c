use Rattle.std.proofs.Common.{rules}
use Rattle.strict_header.proofs.Fields.{ids_laws}
use Rattle.strict_header.proofs.ids.Goals as goal

pub returns-in_err-procid : goal.returns-in_err-procid
returns-in_err-procid c = search (ids_laws, c.in_err-procid.was, rules)

pub past-requires : goal.past-requires
past-requires c = search (ids_laws, c.in_ok-procid.was, rules)

pub overflow_add-at : goal.overflow_add-at
overflow_add-at c = search (ids_laws, c.in_ok-procid.was, rules)

pub returns-in_err-msgid : goal.returns-in_err-msgid
returns-in_err-msgid c = search (ids_laws, c.in_ok-procid.was, c.in_err-msgid.was, rules)

pub overflow_add-result : goal.overflow_add-result
overflow_add-result c = search (ids_laws, c.in_ok-procid.was, c.in_ok-msgid.was, rules)

pub returns : goal.returns
returns c = search (ids_laws, c.in_ok-procid.was, c.in_ok-msgid.was, rules)
