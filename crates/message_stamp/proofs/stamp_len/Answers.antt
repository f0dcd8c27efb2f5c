use Rattle.std.proofs.Common.{rules}
use Rattle.message_stamp.proofs.Texts.{stamp_len_laws}
use Rattle.message_stamp.proofs.stamp_len.Goals as goal

pub overflow_add-result : goal.overflow_add-result
overflow_add-result c = search (stamp_len_laws, rules)

pub returns : goal.returns
returns c = search (stamp_len_laws, rules)
