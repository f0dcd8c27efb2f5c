use Rattle.message.proofs.Answers.{rest_none, rest_some}
use Rattle.message.proofs.rest_fits.Goals as goal

pub returns-in_default : goal.returns-in_default
returns-in_default c = search rest_none

pub returns : goal.returns
returns c = let h = rw c.counted.ensures at c.others_fit.ensures in search rest_some
