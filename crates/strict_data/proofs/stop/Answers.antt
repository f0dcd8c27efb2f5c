use Rattle.std.proofs.Common.{rules}
use Rattle.strict_data.proofs.Values.{stop_laws}
use Rattle.strict_data.proofs.stop.Goals as goal

pub loop-i-init : goal.loop-i-init
loop-i-init c = search (stop_laws, rules)

pub bounds-s-i : goal.bounds-s-i
bounds-s-i c = search (stop_laws, rules)

pub returns-then-b : goal.returns-then-b
returns-then-b c = search (stop_laws, rules)

pub overflow_sub-n : goal.overflow_sub-n
overflow_sub-n c = search (stop_laws, rules)

pub returns-then-n-i-lt2 : goal.returns-then-n-i-lt2
returns-then-n-i-lt2 c = search (stop_laws, rules)

pub overflow_add-i : goal.overflow_add-i
overflow_add-i c = search (stop_laws, rules)

pub loop-i-smaller-then-b-eq92 : goal.loop-i-smaller-then-b-eq92
loop-i-smaller-then-b-eq92 c = search (stop_laws, rules)

pub loop-i-preserved-then-b-eq92 : goal.loop-i-preserved-then-b-eq92
loop-i-preserved-then-b-eq92 c = search (stop_laws, rules)

pub overflow_add-i-else-b-eq92 : goal.overflow_add-i-else-b-eq92
overflow_add-i-else-b-eq92 c = search (stop_laws, rules)

pub loop-i-smaller : goal.loop-i-smaller
loop-i-smaller c = search (stop_laws, rules)

pub loop-i-preserved : goal.loop-i-preserved
loop-i-preserved c = search (stop_laws, rules)

pub returns : goal.returns
returns c = search (stop_laws, rules)
