use Rattle.std.proofs.Common.{rules}
use Rattle.writer_data.proofs.Steps.{first_laws, first_inside}
use Rattle.output.proofs.Pieces.{named_fits, named}
use Rattle.writer_data.proofs.put_first.Goals as goal

pub put-requires : goal.put-requires
put-requires c = search (named_fits, named, first_laws, rules)

pub returns-then-rows-eq0 : goal.returns-then-rows-eq0
returns-then-rows-eq0 c = search (named_fits, named, first_laws, rules)

pub put_open-requires-clause-fits : goal.put_open-requires-clause-fits
put_open-requires-clause-fits c = search (named_fits, first_laws)

pub put_open-requires-clause-k_in_bounds : goal.put_open-requires-clause-k_in_bounds
put_open-requires-clause-k_in_bounds c = search first_inside

pub returns : goal.returns
returns c = search (named_fits, named, first_laws, rules)
