use Rattle.std.proofs.Common.{refl}
use Rattle.output.proofs.Pieces.{starts, next_fits, last_fits, three_are}
use Rattle.message.proofs.elements.put_name.Goals as goal

pub put_part-b-requires-clause-fits : goal.put_part-b-requires-clause-fits
put_part-b-requires-clause-fits c = search (next_fits, starts)

pub put_text-requires : goal.put_text-requires
put_text-requires c = last_fits c.requires.fits c.put-a.ensures c.put_part-b.ensures (search starts)

pub returns : goal.returns
returns c = three_are c.requires.fits c.put-a.ensures c.put_part-b.ensures c.put_text.ensures refl
