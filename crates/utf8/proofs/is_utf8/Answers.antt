use Rattle.std.proofs.Common.{rules}
use Rattle.utf8.proofs.Passing.{passing_laws, char_more, char_step}
use Rattle.utf8.proofs.is_utf8.Goals as goal

pub loop-i-init : goal.loop-i-init
loop-i-init c = search (passing_laws, rules)

pub bounds-s-i : goal.bounds-s-i
bounds-s-i c = search (passing_laws, rules)

pub overflow_add-i : goal.overflow_add-i
overflow_add-i c = search (passing_laws, rules)

pub past_ascii-i-requires : goal.past_ascii-i-requires
past_ascii-i-requires c = search (passing_laws, rules)

pub loop-i-smaller-then-s-i-lt128 : goal.loop-i-smaller-then-s-i-lt128
loop-i-smaller-then-s-i-lt128 c = search (passing_laws, rules)

pub loop-i-preserved-then-s-i-lt128 : goal.loop-i-preserved-then-s-i-lt128
loop-i-preserved-then-s-i-lt128 c = search (passing_laws, rules)

pub past-requires : goal.past-requires
past-requires c = search (passing_laws, rules)

pub wide_len-n-requires : goal.wide_len-n-requires
wide_len-n-requires c = search (passing_laws, rules)

pub returns-then-n-eq0 : goal.returns-then-n-eq0
returns-then-n-eq0 c = search (passing_laws, rules)

pub overflow_add-i-else-s-i-lt128 : goal.overflow_add-i-else-s-i-lt128
overflow_add-i-else-s-i-lt128 c =
    char_step _ _ c.loop-i.invariant c.loop-i-test.true _ c.past.ensures _ c.wide_len-n.ensures (search rules)

pub loop-i-smaller : goal.loop-i-smaller
loop-i-smaller c = search (passing_laws, rules)

pub loop-i-preserved : goal.loop-i-preserved
loop-i-preserved c =
    char_more _ _ c.loop-i.invariant c.loop-i-test.true _ c.past.ensures _ c.wide_len-n.ensures c.if-n-eq0.false

pub returns : goal.returns
returns c = search (passing_laws, rules)
