use Rattle.std.proofs.Common.{rules, refl}
use Rattle.output.proofs.Pieces.{starts, first_fits, next_fits, last_fits, three_are}
use Rattle.writer_header.proofs.put_stamped.Goals as goal

pub put_start-a-requires : goal.put_start-a-requires
put_start-a-requires c = search (first_fits, next_fits, starts, rules)

pub put_stamp-b-requires : goal.put_stamp-b-requires
put_stamp-b-requires c = search (first_fits, next_fits, starts, rules)

pub put-requires : goal.put-requires
put-requires c = last_fits c.requires c.put_start-a.ensures c.put_stamp-b.ensures (search starts)

pub returns : goal.returns
returns c = three_are c.requires c.put_start-a.ensures c.put_stamp-b.ensures c.put.ensures refl
