use Rattle.std.proofs.Common.{rules}
use Rattle.keyed.proofs.Pieces.{key_laws}
use Rattle.keyed.proofs.put_key.Goals as goal

pub put_head-next-requires : goal.put_head-next-requires
put_head-next-requires c = search (key_laws, rules)

pub put_tail-requires : goal.put_tail-requires
put_tail-requires c = search (key_laws, rules)

pub returns : goal.returns
returns c = search (key_laws, rules)
