use Rattle.std.proofs.Common.{refl}
use Rattle.output.proofs.Pieces.{starts, next_fits, last_fits, three_are}
use Rattle.message.proofs.fields.put_pid.Goals as goal

pub put_place-b-requires-clause-fits : goal.put_place-b-requires-clause-fits
put_place-b-requires-clause-fits c = search (next_fits, starts)

pub put_text-requires : goal.put_text-requires
put_text-requires c = last_fits c.requires.fits c.put-a.ensures c.put_place-b.ensures (search starts)

pub returns : goal.returns
returns c = three_are c.requires.fits c.put-a.ensures c.put_place-b.ensures c.put_text.ensures refl
