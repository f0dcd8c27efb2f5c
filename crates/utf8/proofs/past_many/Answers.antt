use Rattle.std.proofs.Common.{rules}
use Rattle.utf8.proofs.Passing.{ascii_laws}
use Rattle.utf8.proofs.past_many.Goals as goal

pub loop-i-init : goal.loop-i-init
loop-i-init c = search (ascii_laws, rules)

pub overflow_sub-n : goal.overflow_sub-n
overflow_sub-n c = search (ascii_laws, rules)

pub many_ascii-requires : goal.many_ascii-requires
many_ascii-requires c = search (ascii_laws, rules)

pub returns-then-not-many_ascii : goal.returns-then-not-many_ascii
returns-then-not-many_ascii c = search (ascii_laws, rules)

pub overflow_add-i : goal.overflow_add-i
overflow_add-i c = search (ascii_laws, rules)

pub past_most-i-requires : goal.past_most-i-requires
past_most-i-requires c = search (ascii_laws, rules)

pub loop-i-smaller : goal.loop-i-smaller
loop-i-smaller c = search (ascii_laws, rules)

pub loop-i-preserved : goal.loop-i-preserved
loop-i-preserved c = search (ascii_laws, rules)

pub returns : goal.returns
returns c = search (ascii_laws, rules)
