use Rattle.std.proofs.Common.{rules}
use Rattle.escaping.proofs.Escapes.{front_laws, front_sixteen}
use Rattle.escaping.proofs.plain_front.Goals as goal

pub loop-i-init : goal.loop-i-init
loop-i-init c = search (front_laws, rules)

pub overflow_sub-n : goal.overflow_sub-n
overflow_sub-n c = search (front_laws, rules)

pub sixteen_plain-requires : goal.sixteen_plain-requires
sixteen_plain-requires c = search (front_laws, rules)

pub returns-then-not-sixteen_plain : goal.returns-then-not-sixteen_plain
returns-then-not-sixteen_plain c = search (front_laws, rules)

pub overflow_add-i : goal.overflow_add-i
overflow_add-i c = search (front_laws, rules)

pub loop-i-smaller : goal.loop-i-smaller
loop-i-smaller c = search (front_laws, rules)

pub loop-i-preserved : goal.loop-i-preserved
loop-i-preserved c = let q = c.sixteen_plain in
    front_sixteen c.args.s.now c.args.from c.loop-i.i (search rules) (search rules) q.result q.ensures (search rules)

pub returns : goal.returns
returns c = search (front_laws, rules)
