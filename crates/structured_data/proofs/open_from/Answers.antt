use Rattle.std.proofs.Common.{rules}
use Rattle.structured_data.proofs.Elements.{open_laws}
use Rattle.structured_data.proofs.open_from.Goals as goal

pub returns-then-not-is_at : goal.returns-then-not-is_at
returns-then-not-is_at c = search (open_laws, rules)

pub overflow_add-at : goal.overflow_add-at
overflow_add-at c = search (open_laws, rules)

pub past-requires : goal.past-requires
past-requires c = search (open_laws, rules)

pub returns-then-id-eq0 : goal.returns-then-id-eq0
returns-then-id-eq0 c = search (open_laws, rules)

pub overflow_add-at-2 : goal.overflow_add-at-2
overflow_add-at-2 c = search (open_laws, rules)

pub overflow_add-at-3 : goal.overflow_add-at-3
overflow_add-at-3 c = search (open_laws, rules)

pub blanks_from-requires : goal.blanks_from-requires
blanks_from-requires c = search (open_laws, rules)

pub returns : goal.returns
returns c = search (open_laws, rules)
