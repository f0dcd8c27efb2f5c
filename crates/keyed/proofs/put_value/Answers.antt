use Rattle.std.proofs.Common.{rules}
use Rattle.keyed.proofs.Pieces.{value_laws}
use Rattle.keyed.proofs.put_value.Goals as goal

pub put_unescaped-requires : goal.put_unescaped-requires
put_unescaped-requires c = search (value_laws, rules)

pub returns : goal.returns
returns c = search (value_laws, rules)
