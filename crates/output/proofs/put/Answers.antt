use Rattle.output.proofs.Writes.{wrote_set}
use Rattle.output.proofs.put.Goals as goal

pub returns : goal.returns
returns c = search wrote_set
