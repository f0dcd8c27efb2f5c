use Rattle.std.proofs.Common.{rules}
use Rattle.stream.proofs.Calling.{content_laws}
use Rattle.stream.proofs.from_content.Goals as goal

pub returns-then-k-all : goal.returns-then-k-all
returns-then-k-all c = search (content_laws, rules)

pub returns-else-k-all : goal.returns-else-k-all
returns-else-k-all c = search (content_laws, rules)
