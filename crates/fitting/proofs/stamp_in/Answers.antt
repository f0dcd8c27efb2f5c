use Rattle.std.proofs.Common.{rules}
use Rattle.fitting.proofs.Tests.{stamp_laws}
use Rattle.fitting.proofs.stamp_in.Goals as goal

pub returns-then-h-eq0 : goal.returns-then-h-eq0
returns-then-h-eq0 c = search (stamp_laws, rules)

pub returns : goal.returns
returns c = search (stamp_laws, rules)
