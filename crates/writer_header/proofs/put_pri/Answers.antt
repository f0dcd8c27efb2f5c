use Rattle.std.proofs.Common.{rules, refl}
use Rattle.output.proofs.Pieces.{starts, first_fits, next_fits, last_fits, three_are}
use Rattle.writer_header.proofs.put_pri.Goals as goal

pub put_number-b-requires : goal.put_number-b-requires
put_number-b-requires c = search (first_fits, next_fits, starts, rules)

pub put-requires : goal.put-requires
put-requires c = last_fits c.requires c.put-a.ensures c.put_number-b.ensures (search starts)

pub returns : goal.returns
returns c = three_are c.requires c.put-a.ensures c.put_number-b.ensures c.put.ensures refl
