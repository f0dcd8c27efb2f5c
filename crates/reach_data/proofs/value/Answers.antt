use Rattle.std.proofs.Common.{rules}
use Rattle.reach_data.proofs.Values.{value_laws}
use Rattle.reach_data.proofs.value.Goals as goal

pub loop-i-init : goal.loop-i-init
loop-i-init c = search (value_laws, rules)

pub bounds-s-i : goal.bounds-s-i
bounds-s-i c = search (value_laws, rules)

pub overflow_add-result : goal.overflow_add-result
overflow_add-result c = search (value_laws, rules)

pub returns-then-paired-b : goal.returns-then-paired-b
returns-then-paired-b c = search (value_laws, rules)

pub returns-then-paired-b-2 : goal.returns-then-paired-b-2
returns-then-paired-b-2 c = search (value_laws, rules)

pub lead_of-l-requires : goal.lead_of-l-requires
lead_of-l-requires c = search (value_laws, rules)

pub returns-then-l-eq0 : goal.returns-then-l-eq0
returns-then-l-eq0 c = search (value_laws, rules)

pub overflow_sub-more : goal.overflow_sub-more
overflow_sub-more c = search (value_laws, rules)

pub overflow_add-i : goal.overflow_add-i
overflow_add-i c = search (value_laws, rules)

pub loop-i-smaller-then-more-eq0 : goal.loop-i-smaller-then-more-eq0
loop-i-smaller-then-more-eq0 c = search (value_laws, rules)

pub loop-i-preserved-then-more-eq0 : goal.loop-i-preserved-then-more-eq0
loop-i-preserved-then-more-eq0 c = search (value_laws, rules)

pub returns-then-b-low : goal.returns-then-b-low
returns-then-b-low c = search (value_laws, rules)

pub overflow_sub-more-else-more-eq0 : goal.overflow_sub-more-else-more-eq0
overflow_sub-more-else-more-eq0 c = search (value_laws, rules)

pub overflow_add-i-else-more-eq0 : goal.overflow_add-i-else-more-eq0
overflow_add-i-else-more-eq0 c = search (value_laws, rules)

pub loop-i-smaller : goal.loop-i-smaller
loop-i-smaller c = search (value_laws, rules)

pub loop-i-preserved : goal.loop-i-preserved
loop-i-preserved c = search (value_laws, rules)

pub returns : goal.returns
returns c = search (value_laws, rules)
