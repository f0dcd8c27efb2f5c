use Rattle.std.proofs.Common.{refl}
use Rattle.output.proofs.Pieces.{starts, first_fits, next_fits, last_fits, three_are}
use Rattle.message_stamp.proofs.put_shown.Goals as goal

pub put_clock-a-requires : goal.put_clock-a-requires
put_clock-a-requires c = search (first_fits, starts)

pub put_fraction-b-requires : goal.put_fraction-b-requires
put_fraction-b-requires c = search (next_fits, starts)

pub put_offset-requires : goal.put_offset-requires
put_offset-requires c = last_fits c.requires c.put_clock-a.ensures c.put_fraction-b.ensures (search starts)

pub returns : goal.returns
returns c = three_are c.requires c.put_clock-a.ensures c.put_fraction-b.ensures c.put_offset.ensures refl
