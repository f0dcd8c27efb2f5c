use Rattle.output.proofs.Pieces.{starts, first_fits, next_fits, two_are}
use Rattle.message_stamp.specs.Stamps.{clock_text}
use Rattle.message_stamp.proofs.put_clock.Goals as goal

pub put_date-a-requires : goal.put_date-a-requires
unfolding clock_text
put_date-a-requires c = search (first_fits, starts)

pub put_time-requires : goal.put_time-requires
unfolding clock_text
put_time-requires c = search (next_fits, starts)

pub returns : goal.returns
unfolding clock_text
returns c = search two_are
