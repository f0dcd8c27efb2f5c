use Rattle.std.proofs.Common.{rules}
use Rattle.structured_data.proofs.Entries.{walk_laws}
use Rattle.structured_data.proofs.walk_params.Goals as goal

pub loop-start-init : goal.loop-start-init
loop-start-init c = search (walk_laws, rules)

pub entry_from-entry-requires : goal.entry_from-entry-requires
entry_from-entry-requires c = search (walk_laws, rules)

pub returns-then-behind-start : goal.returns-then-behind-start
returns-then-behind-start c = search (walk_laws, rules)

pub returns-then-stop-behind : goal.returns-then-stop-behind
returns-then-stop-behind c = search (walk_laws, rules)

pub overflow_add-count : goal.overflow_add-count
overflow_add-count c = search (walk_laws, rules)

pub is_at-requires : goal.is_at-requires
is_at-requires c = search (walk_laws, rules)

pub returns-then-not-is_at : goal.returns-then-not-is_at
returns-then-not-is_at c = search (walk_laws, rules)

pub overflow_add-start : goal.overflow_add-start
overflow_add-start c = search (walk_laws, rules)

pub loop-start-smaller : goal.loop-start-smaller
loop-start-smaller c = search (walk_laws, rules)

pub loop-start-preserved : goal.loop-start-preserved
loop-start-preserved c = search (walk_laws, rules)
