use Rattle.std.proofs.Common.{rules}
use Rattle.output.proofs.Pieces.{starts, first_fits, next_fits, two_are}
use Rattle.writer_header.proofs.put_field.Goals as goal

pub put_part-a-requires-clause-fits : goal.put_part-a-requires-clause-fits
put_part-a-requires-clause-fits c = search (first_fits, starts)

pub put-requires : goal.put-requires
put-requires c = search (first_fits, next_fits, two_are, starts, rules)

pub returns : goal.returns
returns c = search (first_fits, next_fits, two_are, starts, rules)
