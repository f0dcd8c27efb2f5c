use Rattle.std.proofs.Common.{◌∙◌, refl, ap, rules}
use mathlib.Core.Bool.{not}
use Rattle.viable.proofs.Walks.{went_err, fits_laws}
use Rattle.reach_header.proofs.Pieces.{timestamp_closed}
use Rattle.reach_header.proofs.timestamp.Goals as goal

pub returns-in_err-n : goal.returns-in_err-n
returns-in_err-n c = went_err _ _ c.from_residual.ensures ∙ timestamp_closed.stuck _ _ _ c.in_err-n.ensures _ refl

pub returns-then-not-is_at : goal.returns-then-not-is_at
returns-then-not-is_at c = timestamp_closed.missing _ _ _ c.in_ok-n.ensures _ refl _ c.is_at.ensures (ap not c.if-not-is_at.true)

pub overflow_add-result : goal.overflow_add-result
overflow_add-result c = search (fits_laws, rules)

pub returns : goal.returns
returns c = timestamp_closed.past _ _ _ c.in_ok-n.ensures _ refl _ c.is_at.ensures (ap not c.if-not-is_at.false)
