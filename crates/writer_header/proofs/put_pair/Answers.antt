use Rattle.std.proofs.Common.{rules}
use Rattle.output.proofs.Pieces.{starts, first_fits, next_fits, two_are}
use Rattle.writer_header.proofs.put_pair.Goals as goal

pub put_field-a-requires-clause-fits : goal.put_field-a-requires-clause-fits
put_field-a-requires-clause-fits c = search (first_fits, starts)

pub put_field-requires-clause-fits : goal.put_field-requires-clause-fits
put_field-requires-clause-fits c = search (next_fits, starts)

pub returns : goal.returns
returns c = search (first_fits, next_fits, two_are, starts, rules)
