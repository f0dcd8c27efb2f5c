use Rattle.std.proofs.Common.{rules}
use Rattle.structured_data.proofs.Counting.{count_laws}
use Rattle.structured_data.proofs.count_data.Goals as goal

pub hyphen_at-requires : goal.hyphen_at-requires
hyphen_at-requires c = search (count_laws, rules)

pub overflow_add-result : goal.overflow_add-result
overflow_add-result c = search (count_laws, rules)

pub returns-then-hyphen_at : goal.returns-then-hyphen_at
returns-then-hyphen_at c = search (count_laws, rules)

pub loop-i-init : goal.loop-i-init
loop-i-init c = search (count_laws, rules)

pub open_from-open-requires : goal.open_from-open-requires
open_from-open-requires c = search (count_laws, rules)

pub stop_from-stop-requires : goal.stop_from-stop-requires
stop_from-stop-requires c = search (count_laws, rules)

pub walk_params-walk-requires : goal.walk_params-walk-requires
walk_params-walk-requires c = search (count_laws, rules)

pub turn_from-turn-requires : goal.turn_from-turn-requires
turn_from-turn-requires c = search (count_laws, rules)

pub counts_at-requires : goal.counts_at-requires
counts_at-requires c = search (count_laws, rules)

pub returns-then-next-i : goal.returns-then-next-i
returns-then-next-i c = search (count_laws, rules)

pub overflow_add-elements : goal.overflow_add-elements
overflow_add-elements c = search (count_laws, rules)

pub overflow_add-params : goal.overflow_add-params
overflow_add-params c = search (count_laws, rules)

pub loop-i-smaller : goal.loop-i-smaller
loop-i-smaller c = search (count_laws, rules)

pub loop-i-preserved : goal.loop-i-preserved
loop-i-preserved c = search (count_laws, rules)
