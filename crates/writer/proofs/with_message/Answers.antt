use Rattle.std.proofs.Common.{rules}
use Rattle.writer.proofs.Starts.{message_laws}
use Rattle.writer.proofs.with_message.Goals as goal

pub returns-then-p-eq0 : goal.returns-then-p-eq0
returns-then-p-eq0 c = search (message_laws, rules)

pub returns-then-len-gt-LINE_LIMIT : goal.returns-then-len-gt-LINE_LIMIT
returns-then-len-gt-LINE_LIMIT c = search (message_laws, rules)

pub returns : goal.returns
returns c = search (message_laws, rules)
