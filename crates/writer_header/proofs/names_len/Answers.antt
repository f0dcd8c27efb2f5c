use Rattle.std.proofs.Common.{rules}
use Rattle.writer_header.proofs.Fronts.{names_fits, names_sized}
use Rattle.fitting.proofs.Tests.{places_in}
use Rattle.writer_header.proofs.names_len.Goals as goal

pub part_len-requires-clause-len_in_bounds : goal.part_len-requires-clause-len_in_bounds
part_len-requires-clause-len_in_bounds c = search places_in

pub part_len-requires-clause-p_value : goal.part_len-requires-clause-p_value
part_len-requires-clause-p_value c = search names_fits

pub part_len-requires-2-clause-len_in_bounds : goal.part_len-requires-2-clause-len_in_bounds
part_len-requires-2-clause-len_in_bounds c = search places_in

pub part_len-requires-2-clause-p_value : goal.part_len-requires-2-clause-p_value
part_len-requires-2-clause-p_value c = search names_fits

pub part_len-requires-3-clause-len_in_bounds : goal.part_len-requires-3-clause-len_in_bounds
part_len-requires-3-clause-len_in_bounds c = search places_in

pub part_len-requires-3-clause-p_value : goal.part_len-requires-3-clause-p_value
part_len-requires-3-clause-p_value c = search names_fits

pub part_len-requires-4-clause-len_in_bounds : goal.part_len-requires-4-clause-len_in_bounds
part_len-requires-4-clause-len_in_bounds c = search places_in

pub part_len-requires-4-clause-p_value : goal.part_len-requires-4-clause-p_value
part_len-requires-4-clause-p_value c = search names_fits

pub returns : goal.returns
returns c = search (names_fits, places_in, names_sized, rules)
