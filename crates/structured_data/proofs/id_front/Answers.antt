use Rattle.std.proofs.Common.{rules}
use Rattle.structured_data.proofs.Ids.{id_start, id_eight}
use Rattle.structured_data.proofs.id_front.Goals as goal

pub returns-then-s-lt8 : goal.returns-then-s-lt8
returns-then-s-lt8 c = search (id_start, rules)

pub returns-then-not-eight_plain : goal.returns-then-not-eight_plain
returns-then-not-eight_plain c = search (id_start, rules)

pub returns : goal.returns
returns c = search (id_eight, rules)
