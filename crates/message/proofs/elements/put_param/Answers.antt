use Rattle.std.proofs.Common.{refl}
use Rattle.message.specs.Message.{param_text}
use Rattle.output.proofs.Pieces.{starts, first_fits, next_fits, last_fits, three_are}
use Rattle.message.proofs.elements.put_param.Goals as goal

pub put_name-a-requires-clause-fits : goal.put_name-a-requires-clause-fits
unfolding param_text
put_name-a-requires-clause-fits c = search (first_fits, starts)

pub put_part-b-requires-clause-fits : goal.put_part-b-requires-clause-fits
unfolding param_text
put_part-b-requires-clause-fits c = search (next_fits, starts)

pub put-requires : goal.put-requires
unfolding param_text
put-requires c = last_fits c.requires.fits c.put_name-a.ensures c.put_part-b.ensures (search starts)

pub returns : goal.returns
unfolding param_text
returns c = three_are c.requires.fits c.put_name-a.ensures c.put_part-b.ensures c.put.ensures refl
