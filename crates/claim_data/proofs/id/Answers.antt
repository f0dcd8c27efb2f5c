use Rattle.std.proofs.Common.{rules, ap, not}
use Rattle.claim_data.proofs.Entries.{id_laws, id_all}
use Rattle.claim_data.proofs.id.Goals as goal

pub bounds-row-1 : goal.bounds-row-1
bounds-row-1 c = search (id_laws, rules)

pub is_at-requires : goal.is_at-requires
is_at-requires c = search (id_laws, rules)

pub returns-then-not-is_at : goal.returns-then-not-is_at
returns-then-not-is_at c = search (id_laws, rules)

pub bounds-row-0 : goal.bounds-row-0
bounds-row-0 c = search (id_laws, rules)

pub overflow_add-at : goal.overflow_add-at
overflow_add-at c = search (id_laws, rules)

pub returns-then-row-at : goal.returns-then-row-at
returns-then-row-at c = search (id_laws, rules)

pub overflow_add-at-2 : goal.overflow_add-at-2
overflow_add-at-2 c = search (id_laws, rules)

pub name_at-requires : goal.name_at-requires
name_at-requires c = search (id_laws, rules)

pub returns-then-not-name_at : goal.returns-then-not-name_at
returns-then-not-name_at c = search (id_laws, rules)

pub overflow_add-result : goal.overflow_add-result
overflow_add-result c = search (id_laws, rules)

pub overflow_add-result-2 : goal.overflow_add-result-2
overflow_add-result-2 c = search (id_laws, rules)

pub returns : goal.returns
returns c = id_all _ _ c.args.row _ c.is_at.ensures (ap not c.if-not-is_at.false) c.if-row-at.false _ c.name_at.ensures (ap not c.if-not-name_at.false)
