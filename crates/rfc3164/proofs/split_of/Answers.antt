use Rattle.std.proofs.Common.{rules}
use Rattle.rfc3164.proofs.Splits.{split_place}
use Rattle.rfc3164.proofs.split_of.Goals as goal

pub returns : goal.returns
returns c = search (split_place, rules)
