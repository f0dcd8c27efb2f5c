use Rattle.std.proofs.Common.{rules}
use Rattle.base.proofs.Runs.{runs_laws}
use Rattle.strict_header.proofs.print_run.Goals as goal

pub returns-then-not-b : goal.returns-then-not-b
returns-then-not-b c = search (runs_laws, rules)

pub loop-i-preserved : goal.loop-i-preserved
loop-i-preserved c = search (runs_laws, rules)

pub returns : goal.returns
returns c = search (runs_laws, rules)
