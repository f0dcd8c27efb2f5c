use Rattle.std.proofs.Common.{rules}
use Rattle.viable.proofs.Walks.{fits_laws}
use Rattle.reach_header.proofs.Pieces.{two_laws}
use Rattle.reach_header.proofs.two.Goals as goal

pub returns-then-not-is_at : goal.returns-then-not-is_at
returns-then-not-is_at c = search (two_laws, fits_laws, rules)

pub overflow_add-at : goal.overflow_add-at
overflow_add-at c = search (two_laws, fits_laws, rules)

pub returns : goal.returns
returns c = search (two_laws, fits_laws, rules)
