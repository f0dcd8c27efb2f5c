use Rattle.std.proofs.Common.{rules}
use Rattle.output.proofs.Pieces.{starts, first_fits, next_fits, two_are}
use Rattle.escaping.proofs.put_marked.Goals as goal

pub returns : goal.returns
returns c = search (first_fits, next_fits, two_are, starts, rules)
