use Rattle.std.proofs.Common.{rules}
use Rattle.rfc3164.proofs.Spaced.{within_laws}
use Rattle.rfc3164.proofs.Lines.{header_laws}
use Rattle.rfc3164.proofs.header_from.Goals as goal

pub returns-in_default : goal.returns-in_default
returns-in_default c = search (header_laws, rules)

pub tagged_from-requires : goal.tagged_from-requires
tagged_from-requires c = search (within_laws, rules)

pub returns : goal.returns
returns c = search (header_laws, rules)
