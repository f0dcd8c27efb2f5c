use Rattle.std.proofs.Common.{rules}
use Rattle.rfc3164.proofs.Hosts.{all_absent}
use Rattle.rfc3164.proofs.no_names.Goals as goal

pub returns : goal.returns
returns c = search (all_absent, rules)
