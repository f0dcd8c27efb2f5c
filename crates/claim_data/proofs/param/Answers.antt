use Rattle.std.proofs.Common.{rules, ap, not}
use Rattle.claim_data.proofs.Entries.{param_laws, param_fits_lem, param_rooms, param_all}
use Rattle.claim_data.proofs.param.Goals as goal

pub is_at-requires : goal.is_at-requires
is_at-requires c = search (param_laws, param_fits_lem, param_rooms, rules)

pub returns-then-not-is_at : goal.returns-then-not-is_at
returns-then-not-is_at c = search (param_laws, param_fits_lem, param_rooms, rules)

pub overflow_add-at : goal.overflow_add-at
overflow_add-at c = search (param_laws, param_fits_lem, param_rooms, rules)

pub returns-then-p-at : goal.returns-then-p-at
returns-then-p-at c = search (param_laws, param_fits_lem, param_rooms, rules)

pub overflow_add-at-2 : goal.overflow_add-at-2
overflow_add-at-2 c = search (param_laws, param_fits_lem, param_rooms, rules)

pub overflow_add-at-3 : goal.overflow_add-at-3
overflow_add-at-3 c = search (param_laws, param_fits_lem, param_rooms, rules)

pub returns-then-p-at-2 : goal.returns-then-p-at-2
returns-then-p-at-2 c = search (param_laws, param_fits_lem, param_rooms, rules)

pub overflow_add-at-4 : goal.overflow_add-at-4
overflow_add-at-4 c = search (param_laws, param_fits_lem, param_rooms, rules)

pub name_holds-requires : goal.name_holds-requires
name_holds-requires c = search (param_laws, param_fits_lem, param_rooms, rules)

pub returns-then-not-name_holds : goal.returns-then-not-name_holds
returns-then-not-name_holds c = search (param_laws, param_fits_lem, param_rooms, rules)

pub overflow_add-at-5 : goal.overflow_add-at-5
overflow_add-at-5 c = search (param_laws, param_fits_lem, param_rooms, rules)

pub overflow_add-at-6 : goal.overflow_add-at-6
overflow_add-at-6 c = search (param_laws, param_fits_lem, param_rooms, rules)

pub value_holds-requires : goal.value_holds-requires
value_holds-requires c = search (param_laws, param_fits_lem, param_rooms, rules)

pub returns-then-not-value_holds : goal.returns-then-not-value_holds
returns-then-not-value_holds c = search (param_laws, param_fits_lem, param_rooms, rules)

pub overflow_add-result : goal.overflow_add-result
overflow_add-result c = search (param_laws, param_fits_lem, param_rooms, rules)

pub overflow_add-result-2 : goal.overflow_add-result-2
overflow_add-result-2 c = search (param_laws, param_fits_lem, param_rooms, rules)

pub overflow_add-result-3 : goal.overflow_add-result-3
overflow_add-result-3 c = search (param_laws, param_fits_lem, param_rooms, rules)

pub returns : goal.returns
returns c = param_all _ _ c.args.p _ c.is_at.ensures (ap not c.if-not-is_at.false) c.if-p-at.false c.if-p-at-2.false _ c.name_holds.ensures (ap not c.if-not-name_holds.false) _ c.value_holds.ensures (ap not c.if-not-value_holds.false)
