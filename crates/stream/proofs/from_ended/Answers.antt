use Rattle.std.proofs.Common.{rules}
use Rattle.stream.proofs.Calling.{ended_none, ended_some}
use Rattle.stream.proofs.from_ended.Goals as goal

pub returns-then-is_empty : goal.returns-then-is_empty
returns-then-is_empty c = search (ended_none, rules)

pub returns-else-is_empty : goal.returns-else-is_empty
returns-else-is_empty c = search (ended_some, rules)
