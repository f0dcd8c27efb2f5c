use Rattle.std.proofs.Common.{◌∙◌, rules}
use Rattle.strict_header.proofs.Fields.{field_within, ids_within, names_laws}
use Rattle.strict_header.proofs.Steps.{sum_fits, sums_fit}
use Rattle.strict_header.proofs.names.Goals as goal

pub returns-in_err-host : goal.returns-in_err-host
returns-in_err-host c = search (names_laws, c.in_err-host.was, rules)

pub past-t-requires : goal.past-t-requires
past-t-requires c = search (names_laws, c.in_ok-host.was, rules)

pub overflow_add-next : goal.overflow_add-next
overflow_add-next c = search (names_laws, c.in_ok-host.was, rules)

pub returns-in_err-app : goal.returns-in_err-app
returns-in_err-app c = search (names_laws, c.in_ok-host.was, c.in_err-app.was, rules)

pub past-requires : goal.past-requires
past-requires c = search (names_laws, c.in_ok-host.was, c.in_ok-app.was, rules)

pub overflow_add-next-2 : goal.overflow_add-next-2
overflow_add-next-2 c = search (names_laws, c.in_ok-host.was, c.in_ok-app.was, rules)

pub ids-requires : goal.ids-requires
ids-requires c = search (names_laws, c.in_ok-host.was, c.in_ok-app.was, rules)

pub returns-in_err-procid : goal.returns-in_err-procid
returns-in_err-procid c = c.from_residual-in_err-procid.ensures ∙ search (names_laws, c.in_ok-host.was, c.in_ok-app.was, c.in_err-procid.was, rules)

pub overflow_add-result : goal.overflow_add-result
overflow_add-result c = search (sum_fits, field_within, ids_within, c.in_ok-host.was, c.in_ok-app.was, c.in_ok-procid.was)

pub overflow_add-result-2 : goal.overflow_add-result-2
overflow_add-result-2 c = search (sums_fit, field_within, ids_within, c.well_formed.0.0, c.in_ok-host.was, c.in_ok-app.was, c.in_ok-procid.was)

pub returns : goal.returns
returns c = search (names_laws, c.in_ok-host.was, c.in_ok-app.was, c.in_ok-procid.was, rules)
