use Rattle.std.proofs.Common.{ap, arith}
use Rattle.base.specs.Runs.{run}
use Rattle.base.proofs.Runs.{run_le}
use Rattle.stream.specs.Steps.{not_lf}
use Rattle.stream.proofs.Calling.{run_prefix}
use Rattle.stream.proofs.line_front.Goals as goal

pub overflow_add-result : goal.overflow_add-result
overflow_add-result c = omega (arith, run_le not_lf c.args.s.now, run_prefix not_lf c.past.result.now, ap (run not_lf) c.past.ensures)

pub returns : goal.returns
returns c = omega (arith, run_prefix not_lf c.past.result.now, ap (run not_lf) c.past.ensures)
