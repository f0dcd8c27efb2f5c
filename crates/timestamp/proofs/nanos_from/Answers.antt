use Rattle.std.proofs.Common.{rules}
use Rattle.timestamp.proofs.Fixed.{nanos_laws}
use Rattle.timestamp.proofs.nanos_from.Goals as goal

pub returns-then-not-is_at : goal.returns-then-not-is_at
returns-then-not-is_at c = search (nanos_laws, rules)

pub past-requires : goal.past-requires
past-requires c = search (nanos_laws, rules)

pub moved-requires : goal.moved-requires
moved-requires c = search (nanos_laws, rules)

pub returns : goal.returns
returns c = search (nanos_laws, rules)
