use Rattle.std.proofs.Common.{◌∙◌, refl}
use Rattle.viable.proofs.Walks.{went_err}
use Rattle.reach_header.proofs.Pieces.{pri_version_seq}
use Rattle.reach_header.proofs.pri_version.Goals as goal

pub returns-in_err-n : goal.returns-in_err-n
returns-in_err-n c = went_err _ _ c.from_residual.ensures ∙ pri_version_seq.stuck _ _ _ c.in_err-n.ensures _ refl

pub returns : goal.returns
returns c = pri_version_seq.on _ _ _ c.in_ok-n.ensures _ refl _ c.version_end.ensures
