use Rattle.std.proofs.Common.{rules}
use Rattle.writer.proofs.Covered.{put_laws}
use Rattle.writer.proofs.put_turn.Goals as goal

pub put_step-requires-clause-fits : goal.put_step-requires-clause-fits
put_step-requires-clause-fits c = search (put_laws, rules)

pub put_step-requires-clause-rows_value : goal.put_step-requires-clause-rows_value
put_step-requires-clause-rows_value c = search (put_laws, rules)

pub put_step-requires-clause-element_in_bounds : goal.put_step-requires-clause-element_in_bounds
put_step-requires-clause-element_in_bounds c = search (put_laws, rules)

pub returns : goal.returns
returns c = search (put_laws, rules)
