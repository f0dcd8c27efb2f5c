use Rattle.std.proofs.Common.{rules}
use Rattle.reach_header.proofs.Numbers.{over_laws}
use Rattle.reach_header.proofs.is_over.Goals as goal

pub returns-then-digit_end-at-lt3 : goal.returns-then-digit_end-at-lt3
returns-then-digit_end-at-lt3 c = search (over_laws, rules)

pub returns : goal.returns
returns c = search (over_laws, rules)
