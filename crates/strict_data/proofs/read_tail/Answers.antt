use Rattle.std.proofs.Common.{rules}
use Rattle.strict_data.proofs.Messages.{tail_laws}
use Rattle.strict_data.proofs.read_tail.Goals as goal

pub returns-then-s-eq0 : goal.returns-then-s-eq0
returns-then-s-eq0 c = search (tail_laws, rules)

pub returns-then-not-is_at : goal.returns-then-not-is_at
returns-then-not-is_at c = search (tail_laws, rules)

pub returns-then-not-is_message : goal.returns-then-not-is_message
returns-then-not-is_message c = search (tail_laws, rules)

pub returns : goal.returns
returns c = search (tail_laws, rules)
