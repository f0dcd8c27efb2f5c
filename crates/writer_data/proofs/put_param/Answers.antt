use Rattle.std.proofs.Common.{rules}
use Rattle.writer_data.proofs.Steps.{value_is, value_starts, param_starts}
use Rattle.output.proofs.Pieces.{starts_named, first_fits, next_fits, last_fits, three_are}
use Rattle.writer_data.proofs.put_param.Goals as goal

pub put_name-a-requires-clause-fits : goal.put_name-a-requires-clause-fits
put_name-a-requires-clause-fits c = search (first_fits, param_starts)

pub put_escaped-b-requires : goal.put_escaped-b-requires
put_escaped-b-requires c = search (first_fits, next_fits, value_starts, param_starts, rules)

pub put-requires : goal.put-requires
put-requires c = last_fits c.requires.fits c.put_name-a.ensures c.put_escaped-b.ensures (search (starts_named, value_is))

pub returns : goal.returns
returns c = three_are c.requires.fits c.put_name-a.ensures c.put_escaped-b.ensures c.put.ensures (search value_is)
