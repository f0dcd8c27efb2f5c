use Rattle.std.proofs.Common.{rules}
use Rattle.differ.proofs.Eights.{eight_laws}
use Rattle.differ.proofs.same_long.Goals as goal

pub returns-then-n-b : goal.returns-then-n-b
returns-then-n-b c = search (eight_laws, rules)

pub loop-i-init : goal.loop-i-init
loop-i-init c = search (eight_laws, rules)

pub overflow_sub-n : goal.overflow_sub-n
overflow_sub-n c = search (eight_laws, rules)

pub same_eight-requires : goal.same_eight-requires
same_eight-requires c = search (eight_laws, rules)

pub returns-then-not-same_eight : goal.returns-then-not-same_eight
returns-then-not-same_eight c = search (eight_laws, rules)

pub overflow_add-i : goal.overflow_add-i
overflow_add-i c = search (eight_laws, rules)

pub loop-i-smaller : goal.loop-i-smaller
loop-i-smaller c = search (eight_laws, rules)

pub loop-i-preserved : goal.loop-i-preserved
loop-i-preserved c = search (eight_laws, rules)

pub past-requires : goal.past-requires
past-requires c = search (eight_laws, rules)

pub past-requires-2 : goal.past-requires-2
past-requires-2 c = search (eight_laws, rules)

pub same_text-requires : goal.same_text-requires
same_text-requires c = search (eight_laws, rules)

pub returns : goal.returns
returns c = search (eight_laws, rules)
