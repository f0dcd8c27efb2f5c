use Rattle.std.proofs.Common.{rules, arith, ap, ◌∙◌, get_or, get_or-take, length-take-le, ◌<◌}
use Rattle.tally.proofs.Calls.{sum_none, sum_one, sum_all}
use Rattle.tally.proofs.column_sum.Goals as goal

pub loop-row-init : goal.loop-row-init
loop-row-init c = search (sum_none, rules)

pub loop-row-preserved : goal.loop-row-preserved
loop-row-preserved c = let l : c.loop-row.row-index < 25 = omega (arith, length-take-le 25 c.args.rows.now (omega arith)) in sum_one _ _ _ _ _ c.loop-row.invariant l (c.from-sum.ensures ∙ ap (λ r. get_or r c.args.j 0) (rw get_or-take)) (omega arith)

pub returns : goal.returns
returns c = sum_all _ _ _ _ c.loop-row.invariant (omega (arith, length-take-le 25 c.args.rows.now (omega arith)))
