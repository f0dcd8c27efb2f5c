use Rattle.std.proofs.Common.{sym, ◌∙◌, arith}
use Rattle.std.proofs.lemmas.Result.{err_from_is_err_and}
use Rattle.tally.proofs.Calls.{add_refused, add_full, add_done}
use Rattle.tally.proofs.add_at.Goals as goal

pub returns-in_err-demand : goal.returns-in_err-demand
returns-in_err-demand c = let p = err_from_is_err_and c.from_residual.result c.from_residual.ensures.1 in rw (p.1, p.2) (add_refused c.args.rows.now c.args.i c.args.j _ (sym c.demand.ensures ∙ c.in_err-demand.was))

pub returns-in_err-rows : goal.returns-in_err-rows
returns-in_err-rows c = let p = err_from_is_err_and c.from_residual-in_err-rows.result c.from_residual-in_err-rows.ensures.1 in rw (p.1, p.2) (add_full c.args.rows.now c.args.i c.args.j (sym c.demand.ensures ∙ c.in_ok-demand.was) _ c.checked_add.ensures _ (omega arith) (sym c.ok_or.ensures.value ∙ c.in_err-rows.was))

pub returns : goal.returns
returns c = add_done c.args.rows.now c.args.i c.args.j (sym c.demand.ensures ∙ c.in_ok-demand.was) _ c.checked_add.ensures _ (sym c.ok_or.ensures.value ∙ c.in_ok-rows.was)
