use Rattle.std.proofs.Common.{rules}
use Rattle.output.proofs.Pieces.{starts, first_fits, next_fits, two_are}
use Rattle.message.proofs.Walks.{turn_laws}
use Rattle.message.proofs.elements.put_turn.Goals as goal

pub put_opens-a-requires : goal.put_opens-a-requires
put_opens-a-requires c =
    rw c.counted-ids.ensures (record {
      fits = search (first_fits, starts);
      last_in_bounds = search turn_laws;
      k_le_last = search turn_laws;
      ids_value = search rules;
    })

pub put_param-requires : goal.put_param-requires
put_param-requires c =
    let w = rw c.counted-ids.ensures at c.put_opens-a.ensures in
    record { fits = search (next_fits, starts); name_len_in_bounds = search turn_laws; value_len_in_bounds = search turn_laws }

pub returns-then-k-p : goal.returns-then-k-p
returns-then-k-p c =
    let w = rw c.counted-ids.ensures at c.put_opens-a.ensures in
    search two_are

pub put_param-requires-2-clause-fits : goal.put_param-requires-2-clause-fits
put_param-requires-2-clause-fits c = search turn_laws

pub put_param-requires-2-clause-name_len_in_bounds : goal.put_param-requires-2-clause-name_len_in_bounds
put_param-requires-2-clause-name_len_in_bounds c = search turn_laws

pub put_param-requires-2-clause-value_len_in_bounds : goal.put_param-requires-2-clause-value_len_in_bounds
put_param-requires-2-clause-value_len_in_bounds c = search turn_laws

pub returns : goal.returns
returns c = search turn_laws
