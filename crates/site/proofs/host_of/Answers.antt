use Rattle.std.proofs.Common.{rules}
use Rattle.site.proofs.Hosts.{host_laws}
use Rattle.site.proofs.host_of.Goals as goal

pub returns-then-own : goal.returns-then-own
returns-then-own c = search (host_laws, rules)

pub returns-then-default-eq0 : goal.returns-then-default-eq0
returns-then-default-eq0 c = search (host_laws, rules)

pub returns : goal.returns
returns c = search (host_laws, rules)
