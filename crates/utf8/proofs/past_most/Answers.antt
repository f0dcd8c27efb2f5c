use Rattle.std.proofs.Common.{rules}
use Rattle.utf8.proofs.Passing.{ascii_laws}
use Rattle.utf8.proofs.past_most.Goals as goal

pub loop-i-init : goal.loop-i-init
loop-i-init c = search (ascii_laws, rules)

pub overflow_sub-n : goal.overflow_sub-n
overflow_sub-n c = search (ascii_laws, rules)

pub most_ascii-requires : goal.most_ascii-requires
most_ascii-requires c = search (ascii_laws, rules)

pub returns-then-not-most_ascii : goal.returns-then-not-most_ascii
returns-then-not-most_ascii c = search (ascii_laws, rules)

pub overflow_add-i : goal.overflow_add-i
overflow_add-i c = search (ascii_laws, rules)

pub loop-i-smaller : goal.loop-i-smaller
loop-i-smaller c = search (ascii_laws, rules)

pub loop-i-preserved : goal.loop-i-preserved
loop-i-preserved c = search (ascii_laws, rules)

pub returns : goal.returns
returns c = search (ascii_laws, rules)
