use Rattle.std.proofs.Common.{rules}
use Rattle.keyed.proofs.Pieces.{tail_laws}
use Rattle.keyed.proofs.put_tail.Goals as goal

pub put_text-next-requires : goal.put_text-next-requires
put_text-next-requires c = search (tail_laws, rules)

pub put_value-requires : goal.put_value-requires
put_value-requires c = search (tail_laws, rules)

pub returns : goal.returns
returns c = search (tail_laws, rules)
