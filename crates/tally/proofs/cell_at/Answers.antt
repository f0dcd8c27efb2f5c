use Rattle.std.proofs.Common.{rules, sym, ◌∙◌}
use Rattle.std.proofs.lemmas.Result.{err_from_is_err_and}
use Rattle.tally.proofs.Calls.{cell_refused, cell_is}
use Rattle.tally.proofs.cell_at.Goals as goal

pub returns-in_err-demand : goal.returns-in_err-demand
returns-in_err-demand c = let p = err_from_is_err_and c.from_residual.result c.from_residual.ensures.1 in rw (p.1, p.2) (cell_refused c.args.rows.now c.args.i c.args.j _ (sym c.demand.ensures ∙ c.in_err-demand.was))

pub returns : goal.returns
returns c = search (cell_is, rules)
