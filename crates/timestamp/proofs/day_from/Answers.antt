use Rattle.std.proofs.Common.{◌∙◌, rules}
use Rattle.parsers.proofs.Steps.{number_within, some_within}
use Rattle.timestamp.proofs.Months.{month_within}
use Rattle.timestamp.proofs.Forms.{day_end, day_laws}
use Rattle.timestamp.proofs.day_from.Goals as goal

pub returns-in_err-month : goal.returns-in_err-month
returns-in_err-month c = search (day_laws, rules)

pub some_blanks_from-requires : goal.some_blanks_from-requires
some_blanks_from-requires c = search (month_within, c.in_ok-month.was, rules)

pub returns-in_err-b : goal.returns-in_err-b
returns-in_err-b c = search (day_laws, c.in_ok-month.was, rules)

pub number_from-requires : goal.number_from-requires
number_from-requires c = search (some_within, c.in_ok-month.was, c.in_ok-b.was, rules)

pub returns-in_err-day : goal.returns-in_err-day
returns-in_err-day c = search (day_laws, c.in_ok-month.was, c.in_ok-b.was, rules)

pub some_blanks_from-requires-2 : goal.some_blanks_from-requires-2
some_blanks_from-requires-2 c = search (number_within, c.in_ok-month.was, c.in_ok-b.was, c.in_ok-day.was, rules)

pub returns-in_err-d : goal.returns-in_err-d
returns-in_err-d c = c.from_residual-in_err-d.ensures ∙ day_end c.args.s.now c.args.at _ c.month_from.ensures _ _ c.in_ok-month.was _ c.some_blanks_from.ensures _ c.in_ok-b.was _ c.number_from.ensures _ _ c.in_ok-day.was _ c.some_blanks_from-2.ensures c.in_err-d.was

pub returns : goal.returns
returns c = search (day_laws, c.in_ok-month.was, c.in_ok-b.was, c.in_ok-day.was, c.in_ok-d.was, rules)
