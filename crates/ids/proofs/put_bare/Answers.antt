use Rattle.std.proofs.Common.{rules, refl}
use Rattle.output.proofs.Pieces.{starts, next_fits, last_fits, three_are}
use Rattle.ids.proofs.put_bare.Goals as goal

pub put_text-b-requires : goal.put_text-b-requires
put_text-b-requires c = search (next_fits, starts, rules)

pub put-requires : goal.put-requires
put-requires c = last_fits c.requires c.put-a.ensures c.put_text-b.ensures (search starts)

pub returns : goal.returns
returns c = three_are c.requires c.put-a.ensures c.put_text-b.ensures c.put.ensures refl
