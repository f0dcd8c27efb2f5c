use Rattle.std.proofs.Common.{rules}
use Rattle.utf8.proofs.Passing.{ascii_laws}
use Rattle.utf8.proofs.past_one.Goals as goal

pub loop-i-init : goal.loop-i-init
loop-i-init c = search (ascii_laws, rules)

pub bounds-s-i : goal.bounds-s-i
bounds-s-i c = search (ascii_laws, rules)

pub returns-then-s-i-ge128 : goal.returns-then-s-i-ge128
returns-then-s-i-ge128 c = search (ascii_laws, rules)

pub overflow_add-i : goal.overflow_add-i
overflow_add-i c = search (ascii_laws, rules)

pub loop-i-smaller : goal.loop-i-smaller
loop-i-smaller c = search (ascii_laws, rules)

pub loop-i-preserved : goal.loop-i-preserved
loop-i-preserved c = search (ascii_laws, rules)

pub returns : goal.returns
returns c = search (ascii_laws, rules)
