use Rattle.std.proofs.Common.{rules}
use Rattle.structured_data.proofs.Turning.{later_laws}
use Rattle.structured_data.proofs.later.Goals as goal

pub returns-then-a-b : goal.returns-then-a-b
returns-then-a-b c = search (later_laws, rules)

pub returns-else-a-b : goal.returns-else-a-b
returns-else-a-b c = search (later_laws, rules)
