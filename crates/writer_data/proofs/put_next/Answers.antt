use Rattle.std.proofs.Common.{rules}
use Rattle.writer_data.proofs.Steps.{next_laws, next_more}
use Rattle.output.proofs.Pieces.{starts_named, first_fits, next_fits, two_are, named}
use Rattle.writer_data.proofs.put_next.Goals as goal

pub put-a-requires : goal.put-a-requires
put-a-requires c = search (first_fits, next_fits, two_are, named, starts_named, next_laws, rules)

pub returns-then-rows-next : goal.returns-then-rows-next
returns-then-rows-next c = search (first_fits, next_fits, two_are, named, starts_named, next_laws, rules)

pub put_open-requires-clause-fits : goal.put_open-requires-clause-fits
put_open-requires-clause-fits c = search (next_fits, starts_named, next_more)

pub returns : goal.returns
returns c = search (first_fits, next_fits, two_are, named, starts_named, next_laws, rules)
