use Rattle.std.proofs.Common.{rules}
use Rattle.timestamp.proofs.Zones.{east_laws}
use Rattle.timestamp.proofs.east_from.Goals as goal

pub returns-in_err-minutes : goal.returns-in_err-minutes
returns-in_err-minutes c = search (east_laws, rules)

pub offset_of-requires : goal.offset_of-requires
offset_of-requires c = search (east_laws, c.in_ok-minutes.was, rules)

pub returns : goal.returns
returns c = search (east_laws, c.in_ok-minutes.was, rules)
