use Rattle.std.proofs.Common.{rules}
use Rattle.rfc3164.proofs.Hosts.{host_laws}
use Rattle.rfc3164.proofs.host_and_tag.Goals as goal

pub with_tag-requires : goal.with_tag-requires
with_tag-requires c = search (host_laws, rules)

pub returns-in-Some : goal.returns-in-Some
returns-in-Some c = search (host_laws, rules)

pub returns-in-None : goal.returns-in-None
returns-in-None c = search (host_laws, rules)
