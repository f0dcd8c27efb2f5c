use Rattle.std.proofs.Common.{rules}
use Rattle.reach_data.proofs.Messages.{text_laws}
use Rattle.reach_data.proofs.text.Goals as goal

pub returns-then-is_mark : goal.returns-then-is_mark
returns-then-is_mark c = search (text_laws, rules)

pub returns-else-is_mark : goal.returns-else-is_mark
returns-else-is_mark c = search (text_laws, rules)
