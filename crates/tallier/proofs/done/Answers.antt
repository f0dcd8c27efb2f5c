use Rattle.std.proofs.Common.{rules}
use Rattle.tallier.proofs.Counted.{run_laws}
use Rattle.tallier.proofs.done.Goals as goal

pub returns-then-is_read-clause-onward : goal.returns-then-is_read-clause-onward
returns-then-is_read-clause-onward c = search (run_laws, rules)
