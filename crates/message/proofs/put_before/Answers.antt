use Rattle.std.proofs.Common.{rules}
use Rattle.output.proofs.Pieces.{starts, first_fits, next_fits, two_are}
use Rattle.message.proofs.put_before.Goals as goal

pub put_front-a-requires-clause-fits : goal.put_front-a-requires-clause-fits
put_front-a-requires-clause-fits c = search (first_fits, starts)

pub put_first-requires : goal.put_first-requires
put_first-requires c = rw c.counted.ensures (record { fits = search (next_fits, starts); ids_value = search rules })

pub returns : goal.returns
returns c =
    let w = rw c.counted.ensures at c.put_first.ensures in
    search two_are
