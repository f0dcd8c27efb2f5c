use Rattle.std.proofs.Common.{rules}
use Rattle.viable.proofs.Walks.{fits_laws}
use Rattle.reach_header.proofs.Pieces.{signed_laws}
use Rattle.reach_header.proofs.signed.Goals as goal

pub overflow_add-at : goal.overflow_add-at
overflow_add-at c = search (signed_laws, fits_laws, rules)

pub returns-then-is_at : goal.returns-then-is_at
returns-then-is_at c = search (signed_laws, fits_laws, rules)

pub overflow_add-at-then-is_at-2 : goal.overflow_add-at-then-is_at-2
overflow_add-at-then-is_at-2 c = search (signed_laws, fits_laws, rules)

pub returns-then-is_at-2 : goal.returns-then-is_at-2
returns-then-is_at-2 c = search (signed_laws, fits_laws, rules)

pub returns : goal.returns
returns c = search (signed_laws, fits_laws, rules)
