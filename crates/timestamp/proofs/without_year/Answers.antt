use Rattle.std.proofs.Common.{◌∙◌, rules}
use Rattle.timestamp.proofs.Forms.{without_clock, without_laws}
use Rattle.timestamp.proofs.Within.{day_within}
use Rattle.timestamp.proofs.without_year.Goals as goal

pub returns-in_err-month : goal.returns-in_err-month
returns-in_err-month c = search (without_laws, rules)

pub clock_from-requires : goal.clock_from-requires
clock_from-requires c = day_within c.args.s.now c.args.at _ c.day_from.ensures _ _ _ c.in_ok-month.was

pub returns-in_err-hour : goal.returns-in_err-hour
returns-in_err-hour c = c.from_residual-in_err-hour.ensures ∙ without_clock c.args.offset c.ranges.offset c.args.s.now c.args.at _ c.day_from.ensures _ _ _ c.in_ok-month.was c.args.year _ c.clock_from.ensures c.in_err-hour.was

pub returns : goal.returns
returns c = search (without_laws, c.in_ok-month.was, c.in_ok-hour.was, rules)
