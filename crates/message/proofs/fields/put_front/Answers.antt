use Rattle.output.proofs.Pieces.{starts, first_fits, next_fits, two_are}
use Rattle.message.proofs.fields.put_front.Goals as goal

pub put_head-a-requires-clause-fits : goal.put_head-a-requires-clause-fits
put_head-a-requires-clause-fits c = search (first_fits, starts)

pub put_names-requires-clause-fits : goal.put_names-requires-clause-fits
put_names-requires-clause-fits c = search (next_fits, starts)

pub returns : goal.returns
returns c = search two_are
