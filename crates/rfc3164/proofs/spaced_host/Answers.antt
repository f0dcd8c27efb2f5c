use Rattle.std.proofs.Common.{rules}
use Rattle.rfc3164.proofs.Spaced.{spaced_laws}
use Rattle.rfc3164.proofs.spaced_host.Goals as goal

pub returns-in_err-a : goal.returns-in_err-a
returns-in_err-a c = search (spaced_laws, rules)

pub host_from-requires : goal.host_from-requires
host_from-requires c = search (spaced_laws, c.in_ok-a.was, rules)

pub returns : goal.returns
returns c = search (spaced_laws, c.in_ok-a.was, rules)
