use Rattle.output.proofs.Pieces.{sized_append}
use Rattle.message.proofs.fields.front_len.Goals as goal

pub returns : goal.returns
returns c = search sized_append
