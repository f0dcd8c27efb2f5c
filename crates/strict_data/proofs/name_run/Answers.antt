use Rattle.std.proofs.Common.{rules}
use Rattle.base.proofs.Runs.{runs_laws}
use Rattle.strict_data.proofs.name_run.Goals as goal

pub loop-i-preserved : goal.loop-i-preserved
loop-i-preserved c = search (runs_laws, rules)

pub returns-else-b : goal.returns-else-b
returns-else-b c = search (runs_laws, rules)

pub returns : goal.returns
returns c = search (runs_laws, rules)
