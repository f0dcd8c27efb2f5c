use Rattle.std.proofs.Common.{rules}
use Rattle.escaping.proofs.Escapes.{count_laws}
use Rattle.escaping.proofs.escaped_len.Goals as goal

pub plain_end-i-requires : goal.plain_end-i-requires
plain_end-i-requires c = search (count_laws, rules)

pub loop-i-init : goal.loop-i-init
loop-i-init c = search (count_laws, rules)

pub overflow_add-n : goal.overflow_add-n
overflow_add-n c = search (count_laws, rules)

pub overflow_add-i : goal.overflow_add-i
overflow_add-i c = search (count_laws, rules)

pub plain_end-i-requires-in-loop-i : goal.plain_end-i-requires-in-loop-i
plain_end-i-requires-in-loop-i c = search (count_laws, rules)

pub loop-i-smaller : goal.loop-i-smaller
loop-i-smaller c = search (count_laws, rules)

pub loop-i-preserved : goal.loop-i-preserved
loop-i-preserved c = search (count_laws, rules)

pub returns : goal.returns
returns c = search (count_laws, rules)
