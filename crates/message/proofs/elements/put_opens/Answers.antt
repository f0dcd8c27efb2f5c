use Rattle.std.proofs.Common.{rules}
use Rattle.message.proofs.Walks.{opens_step, opens_starts, opens_none, next_in}
use Rattle.output.proofs.Pieces.{midway_all, midway_fits, midway_on, midway_end}
use Rattle.message.proofs.elements.put_opens.Goals as goal

pub loop-j-init : goal.loop-j-init
loop-j-init c = (search rules, search rules, search midway_all)

pub put_next-pos-requires-clause-fits : goal.put_next-pos-requires-clause-fits
put_next-pos-requires-clause-fits c = search (midway_fits, opens_starts)

pub put_next-pos-requires-clause-row_in_bounds : goal.put_next-pos-requires-clause-row_in_bounds
put_next-pos-requires-clause-row_in_bounds c = search next_in

pub loop-j-preserved : goal.loop-j-preserved
loop-j-preserved c = (search rules, search rules, search (midway_on, opens_step))

pub returns : goal.returns
returns c = search (midway_end, opens_none)
