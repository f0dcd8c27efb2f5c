use Rattle.std.proofs.Common.{refl}
use Rattle.message.proofs.Texts.{places_in}
use Rattle.output.proofs.Pieces.{starts, first_fits, next_fits, last_fits, three_are}
use Rattle.message.proofs.fields.put_ids.Goals as goal

pub put_field-a-requires-clause-fits : goal.put_field-a-requires-clause-fits
put_field-a-requires-clause-fits c = search (first_fits, starts)

pub put_field-a-requires-clause-len_in_bounds : goal.put_field-a-requires-clause-len_in_bounds
put_field-a-requires-clause-len_in_bounds c = search places_in

pub put_field-b-requires-clause-fits : goal.put_field-b-requires-clause-fits
put_field-b-requires-clause-fits c = search (next_fits, starts)

pub put_field-b-requires-clause-len_in_bounds : goal.put_field-b-requires-clause-len_in_bounds
put_field-b-requires-clause-len_in_bounds c = search places_in

pub put_field-requires-clause-fits : goal.put_field-requires-clause-fits
put_field-requires-clause-fits c = last_fits c.requires.fits c.put_field-a.ensures c.put_field-b.ensures (search starts)

pub put_field-requires-clause-len_in_bounds : goal.put_field-requires-clause-len_in_bounds
put_field-requires-clause-len_in_bounds c = search places_in

pub returns : goal.returns
returns c = three_are c.requires.fits c.put_field-a.ensures c.put_field-b.ensures c.put_field.ensures refl
