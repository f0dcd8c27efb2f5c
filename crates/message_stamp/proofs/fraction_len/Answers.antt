use Rattle.std.proofs.Common.{rules}
use Rattle.message_stamp.proofs.Texts.{fraction_len_laws}
use Rattle.message_stamp.proofs.fraction_len.Goals as goal

pub returns-then-t-eq0 : goal.returns-then-t-eq0
returns-then-t-eq0 c = search (fraction_len_laws, rules)

pub returns : goal.returns
returns c = search (fraction_len_laws, rules)
