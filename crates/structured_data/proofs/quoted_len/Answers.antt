use Rattle.std.proofs.Common.{rules}
use Rattle.structured_data.proofs.Values.{quoted_laws}
use Rattle.structured_data.proofs.quoted_len.Goals as goal

pub loop-i-init : goal.loop-i-init
loop-i-init c = search (quoted_laws, rules)

pub bounds-s-i : goal.bounds-s-i
bounds-s-i c = search (quoted_laws, rules)

pub returns-then-b-eq34 : goal.returns-then-b-eq34
returns-then-b-eq34 c = search (quoted_laws, rules)

pub overflow_sub-n : goal.overflow_sub-n
overflow_sub-n c = search (quoted_laws, rules)

pub returns-then-n-i-lt2 : goal.returns-then-n-i-lt2
returns-then-n-i-lt2 c = search (quoted_laws, rules)

pub overflow_add-i : goal.overflow_add-i
overflow_add-i c = search (quoted_laws, rules)

pub loop-i-smaller-then-b-eq92 : goal.loop-i-smaller-then-b-eq92
loop-i-smaller-then-b-eq92 c = search (quoted_laws, rules)

pub loop-i-preserved-then-b-eq92 : goal.loop-i-preserved-then-b-eq92
loop-i-preserved-then-b-eq92 c = search (quoted_laws, rules)

pub overflow_add-i-else-b-eq92 : goal.overflow_add-i-else-b-eq92
overflow_add-i-else-b-eq92 c = search (quoted_laws, rules)

pub loop-i-smaller : goal.loop-i-smaller
loop-i-smaller c = search (quoted_laws, rules)

pub loop-i-preserved : goal.loop-i-preserved
loop-i-preserved c = search (quoted_laws, rules)

pub returns : goal.returns
returns c = search (quoted_laws, rules)
