use Rattle.std.proofs.Common.{rules}
use Rattle.reach_header.proofs.Numbers.{digit_laws}
use Rattle.reach_header.proofs.digit_at.Goals as goal

pub bounds-s-at : goal.bounds-s-at
bounds-s-at c = search (digit_laws, rules)
