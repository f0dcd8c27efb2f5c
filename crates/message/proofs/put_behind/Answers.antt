use Rattle.std.proofs.Common.{rules}
use Rattle.output.proofs.Pieces.{starts, first_fits, next_fits, two_are}
use Rattle.message.proofs.Texts.{message_in}
use Rattle.message.proofs.Walks.{opened_in}
use Rattle.message.proofs.put_behind.Goals as goal

pub put_close-a-requires : goal.put_close-a-requires
put_close-a-requires c =
    rw c.counted.ensures (record { fits = search (first_fits, starts); k_in_bounds = search opened_in; ids_value = search rules })

pub put_back-requires : goal.put_back-requires
put_back-requires c =
    let w = rw c.counted.ensures at c.put_close-a.ensures in
    record { fits = search (next_fits, starts); len_in_bounds = search message_in }

pub returns : goal.returns
returns c =
    let w = rw c.counted.ensures at c.put_close-a.ensures in
    search two_are
