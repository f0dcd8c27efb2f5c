use Rattle.std.proofs.Common.{rules}
use Rattle.white.proofs.Walks.{plain_on, plain_laws}
use Rattle.white.proofs.plain_front.Goals as goal

pub loop-i-init : goal.loop-i-init
loop-i-init c = search (plain_laws, rules)

pub overflow_sub-n : goal.overflow_sub-n
overflow_sub-n c = search (plain_laws, rules)

pub four_plain-requires : goal.four_plain-requires
four_plain-requires c = search (plain_laws, rules)

pub returns-then-not-four_plain : goal.returns-then-not-four_plain
returns-then-not-four_plain c = search (plain_laws, rules)

pub overflow_add-i : goal.overflow_add-i
overflow_add-i c = search (plain_laws, rules)

pub loop-i-smaller : goal.loop-i-smaller
loop-i-smaller c = search (plain_laws, rules)

pub loop-i-preserved : goal.loop-i-preserved
loop-i-preserved c = let q = c.four_plain in plain_on c.args.s.now c.loop-i.i (search rules) (search rules) q.result q.ensures (search rules)

pub returns : goal.returns
returns c = search (plain_laws, rules)
