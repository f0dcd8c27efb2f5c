use Rattle.output.proofs.Pieces.{starts, first_fits, next_fits, two_are}
use Rattle.message.proofs.elements.put_next.Goals as goal

pub put-a-requires : goal.put-a-requires
put-a-requires c = search (first_fits, starts)

pub put_open-requires-clause-fits : goal.put_open-requires-clause-fits
put_open-requires-clause-fits c = search (next_fits, starts)

pub returns : goal.returns
returns c = search two_are
