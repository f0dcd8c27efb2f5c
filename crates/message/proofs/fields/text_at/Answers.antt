use Rattle.message.proofs.Texts.{part_is}
use Rattle.message.proofs.fields.text_at.Goals as goal

pub returns : goal.returns
returns c = search part_is
