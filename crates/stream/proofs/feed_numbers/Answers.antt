use Rattle.std.proofs.Common.{rules}
use Rattle.stream.proofs.Numbered.{splits_laws}
use Rattle.stream.proofs.feed_numbers.Goals as goal

pub returns-in-Ok : goal.returns-in-Ok
returns-in-Ok c = search (splits_laws, rules)

pub returns-in-Ok-2 : goal.returns-in-Ok-2
returns-in-Ok-2 c = search (splits_laws, rules)
