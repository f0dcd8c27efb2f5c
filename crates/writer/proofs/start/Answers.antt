use Rattle.std.proofs.Common.{rules}
use Rattle.writer.proofs.Starts.{start_laws, head_told, id_fits_lem, start_short}
use Rattle.fitting.proofs.Tests.{places_in}
use Rattle.writer.proofs.start.Goals as goal

pub returns-then-not-head_fits : goal.returns-then-not-head_fits
returns-then-not-head_fits c = search (start_laws, rules)

pub returns-then-not-id_fits : goal.returns-then-not-id_fits
returns-then-not-id_fits c = search (start_laws, rules)

pub front_len-requires-clause-h_value_2 : goal.front_len-requires-clause-h_value_2
front_len-requires-clause-h_value_2 c = search (head_told, rules)

pub first_size-requires-clause-rows_value_2 : goal.first_size-requires-clause-rows_value_2
first_size-requires-clause-rows_value_2 c = search (id_fits_lem, rules)

pub with_message-at-requires-clause-n_le_line_limit : goal.with_message-at-requires-clause-n_le_line_limit
with_message-at-requires-clause-n_le_line_limit c = search (start_short, rules)

pub with_message-at-requires-clause-len_in_bounds : goal.with_message-at-requires-clause-len_in_bounds
with_message-at-requires-clause-len_in_bounds c = search (places_in, rules)

pub returns : goal.returns
returns c = search (start_laws, rules)
