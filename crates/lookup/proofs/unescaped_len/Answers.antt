use Rattle.std.proofs.Common.{rules}
use Rattle.lookup.proofs.Unescaping.{len_laws}
use Rattle.lookup.proofs.unescaped_len.Goals as goal

pub overflow_add-n : goal.overflow_add-n
overflow_add-n c = search (len_laws, rules)

pub loop-b-preserved : goal.loop-b-preserved
loop-b-preserved c = search (len_laws, rules)

pub overflow_add-result : goal.overflow_add-result
overflow_add-result c = search (len_laws, rules)
