use Rattle.std.proofs.Common.{rules}
use Rattle.rfc5424.proofs.Headers.{blank_laws}
use Rattle.rfc5424.proofs.blank_host.Goals as goal

pub returns-in_err-a : goal.returns-in_err-a
returns-in_err-a c = search (blank_laws, rules)

pub host_from-requires : goal.host_from-requires
host_from-requires c = search (blank_laws, c.in_ok-a.was, rules)

pub returns : goal.returns
returns c = search (blank_laws, c.in_ok-a.was, rules)
