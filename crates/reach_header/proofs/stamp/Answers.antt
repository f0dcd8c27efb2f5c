use Rattle.std.proofs.Common.{rules}
use Rattle.viable.proofs.Walks.{fits_laws}
use Rattle.reach_header.proofs.Pieces.{stamp_laws}
use Rattle.reach_header.proofs.stamp.Goals as goal

pub overflow_add-result : goal.overflow_add-result
overflow_add-result c = search (stamp_laws, fits_laws, rules)

pub returns-then-is_at : goal.returns-then-is_at
returns-then-is_at c = search (stamp_laws, fits_laws, rules)

pub returns : goal.returns
returns c = search (stamp_laws, fits_laws, rules)
