use Rattle.std.proofs.Common.{rules}
use Rattle.timestamp.proofs.Stamps.{dash_laws}
use Rattle.timestamp.proofs.rfc3339_from.Goals as goal

pub returns-then-is_at : goal.returns-then-is_at
returns-then-is_at c = search (dash_laws, rules)

pub returns : goal.returns
returns c = search (dash_laws, rules)
