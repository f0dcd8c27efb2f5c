use Rattle.std.proofs.Common.{refl}
use Rattle.message.proofs.Texts.{places_in}
use Rattle.message.specs.Message.{head_text}
use Rattle.output.proofs.Pieces.{starts, first_fits, next_fits, last_fits, three_are}
use Rattle.message.proofs.fields.put_head.Goals as goal

pub put_stamped-a-requires : goal.put_stamped-a-requires
unfolding head_text
put_stamped-a-requires c = search (first_fits, starts)

pub put-b-requires : goal.put-b-requires
unfolding head_text
put-b-requires c = search (next_fits, starts)

pub put_field-requires-clause-fits : goal.put_field-requires-clause-fits
unfolding head_text
put_field-requires-clause-fits c = last_fits c.requires.fits c.put_stamped-a.ensures c.put-b.ensures (search starts)

pub put_field-requires-clause-len_in_bounds : goal.put_field-requires-clause-len_in_bounds
unfolding head_text
put_field-requires-clause-len_in_bounds c = search places_in

pub returns : goal.returns
unfolding head_text
returns c = three_are c.requires.fits c.put_stamped-a.ensures c.put-b.ensures c.put_field.ensures refl
