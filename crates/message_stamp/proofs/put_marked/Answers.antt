use Rattle.output.proofs.Pieces.{two_are}
use Rattle.message_stamp.proofs.put_marked.Goals as goal

pub returns : goal.returns
returns c = search two_are
