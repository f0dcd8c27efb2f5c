use Rattle.suits.specs.Suits.{record_suits}
use Rattle.suits.proofs.record_suits.Goals as goal

pub returns : goal.returns
unfolding record_suits
returns c = cc
