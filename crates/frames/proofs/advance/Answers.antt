use Rattle.std.proofs.Common.{rules}
use Rattle.frames.proofs.States.{next_refills}
use Rattle.frames.proofs.advance.Goals as goal

pub returns-else-s-clause-advances : goal.returns-else-s-clause-advances
returns-else-s-clause-advances c = search (next_refills, rules)
