use Rattle.std.proofs.Common.{◌∙◌, refl, rules}
use Rattle.viable.proofs.Walks.{went_err, fits_laws}
use Rattle.reach_data.proofs.Items.{params_laws, params_stuck}
use Rattle.reach_data.proofs.params.Goals as goal

pub returns-in_err-i : goal.returns-in_err-i
returns-in_err-i c = went_err _ _ c.from_residual.ensures ∙ params_stuck _ _ _ c.loop-i.invariant _ c.is_at.ensures c.loop-i-test.true _ c.in_err-i.ensures _ refl

pub loop-i-smaller : goal.loop-i-smaller
loop-i-smaller c = let e = c.in_ok-i.was in search (params_laws, rules)

pub loop-i-preserved : goal.loop-i-preserved
loop-i-preserved c = let e = c.in_ok-i.was in search (params_laws, rules)

pub returns : goal.returns
returns c = search (params_laws, rules)
