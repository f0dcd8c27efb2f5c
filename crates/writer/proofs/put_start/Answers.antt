use Rattle.std.proofs.Common.{rules}
use Rattle.writer.proofs.Covered.{open_laws}
use Rattle.writer.proofs.put_start.Goals as goal

pub put_front-a-requires-clause-fits : goal.put_front-a-requires-clause-fits
put_front-a-requires-clause-fits c = search (open_laws, rules)

pub put_first-at-requires-clause-fits : goal.put_first-at-requires-clause-fits
put_first-at-requires-clause-fits c = search (open_laws, rules)

pub put_first-at-requires-clause-rows_value : goal.put_first-at-requires-clause-rows_value
put_first-at-requires-clause-rows_value c = search (open_laws, rules)

pub returns : goal.returns
returns c = search (open_laws, rules)
