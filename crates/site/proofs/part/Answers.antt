use Rattle.std.proofs.Common.{rules}
use Rattle.site.proofs.Hosts.{part_laws}
use Rattle.site.proofs.part.Goals as goal

pub returns-then-n-start : goal.returns-then-n-start
returns-then-n-start c = search (part_laws, rules)

pub returns-then-n-start-2 : goal.returns-then-n-start-2
returns-then-n-start-2 c = search (part_laws, rules)

pub returns : goal.returns
returns c = search (part_laws, rules)
