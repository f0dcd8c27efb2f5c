use Rattle.std.proofs.Common.{◌∙◌, rules}
use Rattle.calendar.specs.Calendar.{valid_date}
use Rattle.grammar.specs.Parse.{date}
use Rattle.strict_header.proofs.Steps.{sum_fits}
use Rattle.strict_header.proofs.Dates.{two_within, pair_within, fixed_within, fixed_answer, triple_no_first, triple_no_pair, triple_not, triple_is}
use Rattle.strict_header.proofs.date.Goals as goal

pub returns-in_err-year : goal.returns-in_err-year
unfolding date
returns-in_err-year c = c.from_residual.ensures ∙ search (triple_no_first valid_date, fixed_answer, c.in_err-year.was, rules)

pub past-requires : goal.past-requires
past-requires c = search (fixed_within, c.in_ok-year.was, rules)

pub returns-in_err-month : goal.returns-in_err-month
unfolding date
returns-in_err-month c = c.from_residual-in_err-month.ensures ∙ search (triple_no_pair valid_date, fixed_answer, c.in_ok-year.was, c.in_err-month.was, rules)

pub returns-then-not-is_date : goal.returns-then-not-is_date
unfolding date
returns-then-not-is_date c = search (triple_not valid_date, fixed_answer, c.in_ok-year.was, c.in_ok-month.was, rules)

pub overflow_add-result : goal.overflow_add-result
overflow_add-result c = search (fixed_within, pair_within, sum_fits, c.in_ok-year.was, c.in_ok-month.was, rules)

pub returns : goal.returns
unfolding date
returns c = search (triple_is valid_date, fixed_answer, c.in_ok-year.was, c.in_ok-month.was, rules)
