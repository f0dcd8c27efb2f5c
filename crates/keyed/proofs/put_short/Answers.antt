use Rattle.std.proofs.Common.{rules}
use Rattle.keyed.proofs.Pieces.{short_laws}
use Rattle.keyed.proofs.put_short.Goals as goal

pub put-next-requires : goal.put-next-requires
put-next-requires c = search (short_laws, rules)

pub put-requires : goal.put-requires
put-requires c = search (short_laws, rules)

pub returns : goal.returns
returns c = search (short_laws, rules)
