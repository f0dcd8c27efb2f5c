use Rattle.std.proofs.Common.{rules}
use Rattle.ids.proofs.Many.{bare_tells}
use Rattle.ids.proofs.bare_differ.Goals as goal

pub returns : goal.returns
returns c = search (bare_tells, rules)
