use Rattle.std.proofs.Common.{rules}
use Rattle.output.proofs.Pieces.{three_are}
use Rattle.settings.proofs.Writing.{front_fits}
use Rattle.settings.proofs.put_front.Goals as goal

pub returns : goal.returns
returns c = search (front_fits, three_are, rules)
