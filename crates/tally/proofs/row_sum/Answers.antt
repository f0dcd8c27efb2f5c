use Rattle.std.proofs.Common.{rules, arith}
use Rattle.tally.proofs.Calls.{sum_none, sum_one}
use Rattle.tally.proofs.row_sum.Goals as goal

pub loop-n-init : goal.loop-n-init
loop-n-init c = search (sum_none, rules)

pub loop-n-preserved : goal.loop-n-preserved
loop-n-preserved c = sum_one _ _ _ _ _ c.loop-n.invariant c.loop-n-test.true c.from-sum.ensures (omega (arith, c.fits-row c.loop-n.n-index))
