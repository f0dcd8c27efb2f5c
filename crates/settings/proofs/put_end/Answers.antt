use Rattle.std.proofs.Common.{rules}
use Rattle.output.proofs.Pieces.{starts, two_are}
use Rattle.settings.proofs.put_end.Goals as goal

pub returns : goal.returns
returns c = search (starts, two_are, rules)
