use Rattle.output.proofs.Pieces.{unwritten, named_fits, named}
use Rattle.message.proofs.Walks.{first_none, first_some, first_in}
use Rattle.message.proofs.elements.put_first.Goals as goal

pub returns-then-ids-eq0 : goal.returns-then-ids-eq0
returns-then-ids-eq0 c = search (unwritten, first_none)

pub put_open-requires-clause-fits : goal.put_open-requires-clause-fits
put_open-requires-clause-fits c = search (named_fits, first_some)

pub put_open-requires-clause-row_in_bounds : goal.put_open-requires-clause-row_in_bounds
put_open-requires-clause-row_in_bounds c = search first_in

pub returns : goal.returns
returns c = search (named, first_some)
