use Rattle.output.proofs.Pieces.{unwritten, first_fits, next_fits, two_are}
use Rattle.message.proofs.Walks.{close_none, close_some, close_starts, close_ends}
use Rattle.message.proofs.elements.put_close.Goals as goal

pub returns-then-ids-eq0 : goal.returns-then-ids-eq0
returns-then-ids-eq0 c = search (unwritten, close_none)

pub put_opens-a-requires-clause-fits : goal.put_opens-a-requires-clause-fits
put_opens-a-requires-clause-fits c = search (first_fits, close_starts)

pub put-requires : goal.put-requires
put-requires c = search (next_fits, close_ends)

pub returns : goal.returns
returns c = search (two_are, close_some)
