use Rattle.std.proofs.Common.{refl}
use Rattle.strict.specs.Scan.{record_with}
use Rattle.strict.proofs.record_of.Goals as goal

pub returns : goal.returns
unfolding record_with
returns c = refl
