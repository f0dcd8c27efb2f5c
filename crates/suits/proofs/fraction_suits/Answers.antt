use Rattle.std.proofs.Common.{rules}
use Rattle.digits.proofs.Fractions.{unit_some}
use Rattle.suits.proofs.fraction_suits.Goals as goal

pub nonzero_rem-result : goal.nonzero_rem-result
nonzero_rem-result c = search (unit_some, rules)
