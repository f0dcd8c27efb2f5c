use Rattle.output.proofs.Pieces.{starts, first_fits, next_fits, two_are}
use Rattle.message.proofs.put_back.Goals as goal

pub put_end-a-requires : goal.put_end-a-requires
put_end-a-requires c = search (first_fits, starts)

pub put_part-requires-clause-fits : goal.put_part-requires-clause-fits
put_part-requires-clause-fits c = search (next_fits, starts)

pub returns : goal.returns
returns c = search two_are
