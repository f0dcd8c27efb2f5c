use Rattle.std.proofs.Common.{rules}
use Rattle.distinct.proofs.Walks.{turn_laws}
use Rattle.distinct.proofs.meet.Goals as goal

pub is_same-requires : goal.is_same-requires
is_same-requires c = search (turn_laws, rules)
