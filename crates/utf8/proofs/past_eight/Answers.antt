use Rattle.std.proofs.Common.{◌+◌, rules}
use Rattle.utf8.proofs.Passing.{then_passed, eight_more, ascii_laws}
use Rattle.utf8.proofs.past_eight.Goals as goal

pub loop-i-init : goal.loop-i-init
loop-i-init c = search (ascii_laws, rules)

pub overflow_sub-n : goal.overflow_sub-n
overflow_sub-n c = search (ascii_laws, rules)

pub eight_ascii-requires : goal.eight_ascii-requires
eight_ascii-requires c = search (ascii_laws, rules)

pub returns-then-not-eight_ascii : goal.returns-then-not-eight_ascii
returns-then-not-eight_ascii c = search (ascii_laws, rules)

pub overflow_add-i : goal.overflow_add-i
overflow_add-i c = search (ascii_laws, rules)

pub past_many-i-requires : goal.past_many-i-requires
past_many-i-requires c = search (ascii_laws, rules)

pub loop-i-smaller : goal.loop-i-smaller
loop-i-smaller c = search (ascii_laws, rules)

pub loop-i-preserved : goal.loop-i-preserved
loop-i-preserved c = let s = c.args.s.now in
    let at = c.args.at in
    let i = c.loop-i.i in
    let q = c.eight_ascii in
    then_passed s at (i + 8) c.past_many-i.result (eight_more s at i (search rules) (search rules) q.result q.ensures (search rules)) c.past_many-i.ensures

pub returns : goal.returns
returns c = search (ascii_laws, rules)
