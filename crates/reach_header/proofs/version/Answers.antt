use Rattle.std.proofs.Common.{rules}
use Rattle.reach_header.proofs.Numbers.{version_laws}
use Rattle.reach_header.proofs.version.Goals as goal

pub returns-then-is_at : goal.returns-then-is_at
returns-then-is_at c = search (version_laws, rules)

pub returns : goal.returns
returns c = search (version_laws, rules)
