use Rattle.std.proofs.Common.{rules}
use Rattle.differ.proofs.Fields.{mark_of_lem}
use Rattle.differ.proofs.place_mark.Goals as goal

pub returns : goal.returns
returns c = search (mark_of_lem, rules)
