use Rattle.std.proofs.Common.{rules}
use Rattle.base.proofs.Runs.{runs_laws}
use Rattle.parsers.proofs.blanks_from.Goals as goal

pub returns-then-not-is_blank : goal.returns-then-not-is_blank
returns-then-not-is_blank c = search (runs_laws, rules)

pub loop-i-preserved : goal.loop-i-preserved
loop-i-preserved c = search (runs_laws, rules)

pub returns : goal.returns
returns c = search (runs_laws, rules)
