use Rattle.std.proofs.Common.{rules}
use Rattle.message_stamp.proofs.Texts.{offset_laws}
use Rattle.message_stamp.proofs.sign_of.Goals as goal

pub returns-then-d-eq0 : goal.returns-then-d-eq0
returns-then-d-eq0 c = search (offset_laws, rules)

pub returns : goal.returns
returns c = search (offset_laws, rules)
