use Rattle.std.proofs.Common.{rules}
use Rattle.settings.proofs.Taking.{range_is}
use Rattle.settings.proofs.is_in_range.Goals as goal

pub returns : goal.returns
returns c = search (range_is, rules)
