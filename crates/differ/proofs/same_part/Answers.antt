use Rattle.std.proofs.Common.{rules}
use Rattle.differ.proofs.Fields.{part_is}
use Rattle.differ.proofs.same_part.Goals as goal

pub returns : goal.returns
returns c = search (part_is, rules)
