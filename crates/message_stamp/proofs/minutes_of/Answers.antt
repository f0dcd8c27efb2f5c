use Rattle.std.proofs.Common.{rules}
use Rattle.message_stamp.proofs.Texts.{offset_laws}
use Rattle.message_stamp.proofs.minutes_of.Goals as goal

pub overflow_add-result : goal.overflow_add-result
overflow_add-result c = search (offset_laws, rules)

pub overflow_cast-result : goal.overflow_cast-result
overflow_cast-result c = search (offset_laws, rules)

pub returns : goal.returns
returns c = search (offset_laws, rules)
