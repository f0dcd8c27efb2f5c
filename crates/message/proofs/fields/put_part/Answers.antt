use Rattle.output.proofs.Pieces.{named_fits, named}
use Rattle.message.proofs.fields.put_part.Goals as goal

pub put_text-requires : goal.put_text-requires
put_text-requires c = search named_fits

pub returns : goal.returns
returns c = search named
