use Rattle.message.specs.Message.{open_text}
use Rattle.output.proofs.Pieces.{starts, first_fits, next_fits, two_are}
use Rattle.message.proofs.elements.put_open.Goals as goal

pub put-a-requires : goal.put-a-requires
unfolding open_text
put-a-requires c = search (first_fits, starts)

pub put_part-requires-clause-fits : goal.put_part-requires-clause-fits
unfolding open_text
put_part-requires-clause-fits c = search (next_fits, starts)

pub returns : goal.returns
unfolding open_text
returns c = search two_are
