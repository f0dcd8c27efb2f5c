use Rattle.std.proofs.Common.{rules}
use Rattle.white.proofs.Trims.{before_laws}
use Rattle.white.proofs.white_before.Goals as goal

pub returns-then-is_blank : goal.returns-then-is_blank
returns-then-is_blank c = search (before_laws, rules)

pub returns-then-b-lt128 : goal.returns-then-b-lt128
returns-then-b-lt128 c = search (before_laws, rules)
