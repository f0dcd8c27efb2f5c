use Rattle.std.proofs.Common.{rules}
use Rattle.viable.proofs.Ends.{ends_laws}
use Rattle.reach_data.proofs.name_end.Goals as goal

pub loop-i-init : goal.loop-i-init
loop-i-init c = search (ends_laws, rules)

pub bounds-s-i : goal.bounds-s-i
bounds-s-i c = search (ends_laws, rules)

pub overflow_add-i : goal.overflow_add-i
overflow_add-i c = search (ends_laws, rules)

pub loop-i-smaller : goal.loop-i-smaller
loop-i-smaller c = search (ends_laws, rules)

pub loop-i-preserved : goal.loop-i-preserved
loop-i-preserved c = search (ends_laws, rules)

pub returns-else-b : goal.returns-else-b
returns-else-b c = search (ends_laws, rules)

pub returns : goal.returns
returns c = search (ends_laws, rules)
