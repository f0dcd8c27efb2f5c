use Rattle.std.proofs.Common.{rules}
use Rattle.timestamp.proofs.Zones.{west_laws}
use Rattle.timestamp.proofs.west_from.Goals as goal

pub returns-in_err-minutes : goal.returns-in_err-minutes
returns-in_err-minutes c = search (west_laws, rules)

pub offset_of-requires : goal.offset_of-requires
offset_of-requires c = search (west_laws, c.in_ok-minutes.was, rules)

pub returns : goal.returns
returns c = search (west_laws, c.in_ok-minutes.was, rules)
