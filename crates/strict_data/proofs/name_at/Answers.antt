use Rattle.std.proofs.Common.{rules}
use Rattle.strict_data.proofs.Entries.{name_at_is}
use Rattle.strict_data.proofs.name_at.Goals as goal

pub returns : goal.returns
returns c = search (name_at_is, rules)
