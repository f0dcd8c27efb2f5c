use Rattle.std.proofs.Common.{rules}
use Rattle.output.proofs.Pieces.{starts, three_are}
use Rattle.settings.proofs.put_pairs.Goals as goal

pub returns : goal.returns
returns c = search (starts, three_are, rules)
