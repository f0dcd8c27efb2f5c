use Rattle.output.proofs.Writes.{wrote_part}
use Rattle.message.proofs.fields.put_stamp_at.Goals as goal

pub returns : goal.returns
returns c = search wrote_part
