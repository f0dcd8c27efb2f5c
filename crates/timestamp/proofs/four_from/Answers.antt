use Rattle.std.proofs.Common.{rules}
use Rattle.timestamp.proofs.Fixed.{fixed_laws}
use Rattle.timestamp.proofs.four_from.Goals as goal

pub moved-requires : goal.moved-requires
moved-requires c = search (fixed_laws, rules)

pub returns : goal.returns
returns c = search (fixed_laws, rules)
