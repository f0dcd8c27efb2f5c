use Rattle.std.proofs.Common.{rules}
use Rattle.reach_data.proofs.Messages.{reading_laws}
use Rattle.reach_data.proofs.utf8_to_end.Goals as goal

pub loop-i-init : goal.loop-i-init
loop-i-init c = search (reading_laws, rules)

pub bounds-s-i : goal.bounds-s-i
bounds-s-i c = search (reading_laws, rules)

pub overflow_add-i : goal.overflow_add-i
overflow_add-i c = search (reading_laws, rules)

pub loop-i-smaller-then-b-lt128 : goal.loop-i-smaller-then-b-lt128
loop-i-smaller-then-b-lt128 c = search (reading_laws, rules)

pub loop-i-preserved-then-b-lt128 : goal.loop-i-preserved-then-b-lt128
loop-i-preserved-then-b-lt128 c = search (reading_laws, rules)

pub lead_of-l-requires : goal.lead_of-l-requires
lead_of-l-requires c = search (reading_laws, rules)

pub returns-then-l-eq0 : goal.returns-then-l-eq0
returns-then-l-eq0 c = search (reading_laws, rules)

pub overflow_sub-more : goal.overflow_sub-more
overflow_sub-more c = search (reading_laws, rules)

pub overflow_add-i-then-more-eq0 : goal.overflow_add-i-then-more-eq0
overflow_add-i-then-more-eq0 c = search (reading_laws, rules)

pub loop-i-smaller-then-more-eq0 : goal.loop-i-smaller-then-more-eq0
loop-i-smaller-then-more-eq0 c = search (reading_laws, rules)

pub loop-i-preserved-then-more-eq0 : goal.loop-i-preserved-then-more-eq0
loop-i-preserved-then-more-eq0 c = search (reading_laws, rules)

pub returns-then-b-low : goal.returns-then-b-low
returns-then-b-low c = search (reading_laws, rules)

pub overflow_sub-more-else-more-eq0 : goal.overflow_sub-more-else-more-eq0
overflow_sub-more-else-more-eq0 c = search (reading_laws, rules)

pub overflow_add-i-else-more-eq0 : goal.overflow_add-i-else-more-eq0
overflow_add-i-else-more-eq0 c = search (reading_laws, rules)

pub loop-i-smaller : goal.loop-i-smaller
loop-i-smaller c = search (reading_laws, rules)

pub loop-i-preserved : goal.loop-i-preserved
loop-i-preserved c = search (reading_laws, rules)

pub returns-then-more-eq0-2 : goal.returns-then-more-eq0-2
returns-then-more-eq0-2 c = search (reading_laws, rules)

pub returns : goal.returns
returns c = search (reading_laws, rules)
