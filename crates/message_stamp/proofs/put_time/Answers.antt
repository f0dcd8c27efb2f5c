use Rattle.std.proofs.Common.{refl}
use Rattle.output.proofs.Pieces.{starts, first_fits, next_fits, last_fits, three_are}
use Rattle.message_stamp.specs.Stamps.{time_text}
use Rattle.message_stamp.proofs.put_time.Goals as goal

pub put_marked-a-requires : goal.put_marked-a-requires
unfolding time_text
put_marked-a-requires c = search (first_fits, starts)

pub put_marked-b-requires : goal.put_marked-b-requires
unfolding time_text
put_marked-b-requires c = search (next_fits, starts)

pub put_marked-requires : goal.put_marked-requires
unfolding time_text
put_marked-requires c = last_fits c.requires c.put_marked-a.ensures c.put_marked-b.ensures (search starts)

pub returns : goal.returns
unfolding time_text
returns c = three_are c.requires c.put_marked-a.ensures c.put_marked-b.ensures c.put_marked.ensures refl
