use Rattle.std.proofs.Common.{refl}
use Rattle.output.proofs.Pieces.{starts, first_fits, next_fits, last_fits, three_are}
use Rattle.message.proofs.fields.put_start.Goals as goal

pub put_pri-a-requires : goal.put_pri-a-requires
put_pri-a-requires c = search (first_fits, starts)

pub put_version-b-requires : goal.put_version-b-requires
put_version-b-requires c = search (next_fits, starts)

pub put-requires : goal.put-requires
put-requires c = last_fits c.requires c.put_pri-a.ensures c.put_version-b.ensures (search starts)

pub returns : goal.returns
returns c = three_are c.requires c.put_pri-a.ensures c.put_version-b.ensures c.put.ensures refl
