use Rattle.message.specs.Message.{field_text}
use Rattle.output.proofs.Pieces.{starts, first_fits, next_fits, two_are}
use Rattle.message.proofs.fields.put_field.Goals as goal

pub put_place-a-requires-clause-fits : goal.put_place-a-requires-clause-fits
unfolding field_text
put_place-a-requires-clause-fits c = search (first_fits, starts)

pub put-requires : goal.put-requires
unfolding field_text
put-requires c = search (next_fits, starts)

pub returns : goal.returns
unfolding field_text
returns c = search two_are
