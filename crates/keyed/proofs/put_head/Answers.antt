use Rattle.std.proofs.Common.{rules}
use Rattle.keyed.proofs.Pieces.{head_laws}
use Rattle.keyed.proofs.put_head.Goals as goal

pub put_short-next-requires : goal.put_short-next-requires
put_short-next-requires c = search (head_laws, rules)

pub put_short-requires : goal.put_short-requires
put_short-requires c = search (head_laws, rules)

pub returns : goal.returns
returns c = search (head_laws, rules)
