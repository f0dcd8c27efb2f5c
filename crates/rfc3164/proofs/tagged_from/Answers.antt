use Rattle.std.proofs.Common.{rules}
use Rattle.rfc3164.proofs.Spaced.{within_laws}
use Rattle.rfc3164.proofs.Lines.{tagged_is}
use Rattle.rfc3164.proofs.tagged_from.Goals as goal

pub host_and_tag-requires : goal.host_and_tag-requires
host_and_tag-requires c = search (within_laws, rules)

pub returns : goal.returns
returns c = search (tagged_is, rules)
