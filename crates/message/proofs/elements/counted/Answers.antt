use Rattle.message.proofs.Walks.{counted_is}
use Rattle.message.proofs.elements.counted.Goals as goal

pub returns : goal.returns
returns c = search counted_is
