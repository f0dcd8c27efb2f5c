use Rattle.std.proofs.Common.{◌∙◌, refl}
use Rattle.viable.proofs.Walks.{went_err}
use Rattle.reach_header.proofs.Pieces.{zone_seq}
use Rattle.reach_header.proofs.zone.Goals as goal

pub returns-in_err-n : goal.returns-in_err-n
returns-in_err-n c = went_err _ _ c.from_residual.ensures ∙ zone_seq.stuck _ _ _ c.in_err-n.ensures _ refl

pub returns : goal.returns
returns c = zone_seq.on _ _ _ c.in_ok-n.ensures _ refl _ c.two.ensures
