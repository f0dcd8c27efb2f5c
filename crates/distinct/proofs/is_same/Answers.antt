use Rattle.std.proofs.Common.{rules}
use Rattle.distinct.proofs.Turns.{same_laws}
use Rattle.distinct.proofs.is_same.Goals as goal

pub returns-else-byte_of : goal.returns-else-byte_of
returns-else-byte_of c = search (same_laws, rules)
