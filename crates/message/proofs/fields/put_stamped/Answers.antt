use Rattle.output.proofs.Pieces.{starts, first_fits, next_fits, two_are}
use Rattle.message.proofs.fields.put_stamped.Goals as goal

pub put_start-a-requires : goal.put_start-a-requires
put_start-a-requires c = search (first_fits, starts)

pub put_stamp_at-requires : goal.put_stamp_at-requires
put_stamp_at-requires c = search (next_fits, starts)

pub returns : goal.returns
returns c = search two_are
