use Rattle.std.proofs.Common.{rules}
use Rattle.base.proofs.Runs.{runs_laws}
use Rattle.structured_data.proofs.Ids.{name_letter}
use Rattle.structured_data.proofs.name_run.Goals as goal

pub loop-i-init : goal.loop-i-init
loop-i-init c = search (name_letter, runs_laws, rules)

pub bounds-s-i : goal.bounds-s-i
bounds-s-i c = search (name_letter, runs_laws, rules)

pub overflow_add-i : goal.overflow_add-i
overflow_add-i c = search (name_letter, runs_laws, rules)

pub loop-i-smaller-then-b-ge94 : goal.loop-i-smaller-then-b-ge94
loop-i-smaller-then-b-ge94 c = search (name_letter, runs_laws, rules)

pub loop-i-preserved-then-b-ge94 : goal.loop-i-preserved-then-b-ge94
loop-i-preserved-then-b-ge94 c = search (name_letter, runs_laws, rules)

pub is_named-requires : goal.is_named-requires
is_named-requires c = search (name_letter, runs_laws, rules)

pub returns-then-not-is_named : goal.returns-then-not-is_named
returns-then-not-is_named c = search (name_letter, runs_laws, rules)

pub overflow_add-i-else-b-ge94 : goal.overflow_add-i-else-b-ge94
overflow_add-i-else-b-ge94 c = search (name_letter, runs_laws, rules)

pub loop-i-smaller : goal.loop-i-smaller
loop-i-smaller c = search (name_letter, runs_laws, rules)

pub loop-i-preserved : goal.loop-i-preserved
loop-i-preserved c = search (name_letter, runs_laws, rules)

pub returns : goal.returns
returns c = search (name_letter, runs_laws, rules)
