use Rattle.std.proofs.Common.{◌∙◌, rules}
use Rattle.calendar.specs.Calendar.{valid_time}
use Rattle.grammar.specs.Parse.{clock}
use Rattle.strict_header.proofs.Steps.{sum_fits}
use Rattle.strict_header.proofs.Dates.{two_within, pair_within, fixed_within, fixed_answer, triple_no_first, triple_no_pair, triple_not, triple_is}
use Rattle.strict_header.proofs.clock.Goals as goal

pub returns-in_err-hour : goal.returns-in_err-hour
unfolding clock
returns-in_err-hour c = c.from_residual.ensures ∙ search (triple_no_first valid_time, c.in_err-hour.was, rules)

pub past-requires : goal.past-requires
past-requires c = search (two_within, c.in_ok-hour.was, rules)

pub returns-in_err-minute : goal.returns-in_err-minute
unfolding clock
returns-in_err-minute c = c.from_residual-in_err-minute.ensures ∙ search (triple_no_pair valid_time, c.in_ok-hour.was, c.in_err-minute.was, rules)

pub returns-then-not-is_time : goal.returns-then-not-is_time
unfolding clock
returns-then-not-is_time c = search (triple_not valid_time, c.in_ok-hour.was, c.in_ok-minute.was, rules)

pub overflow_add-result : goal.overflow_add-result
overflow_add-result c = search (two_within, pair_within, sum_fits, c.in_ok-hour.was, c.in_ok-minute.was, rules)

pub returns : goal.returns
unfolding clock
returns c = search (triple_is valid_time, c.in_ok-hour.was, c.in_ok-minute.was, rules)
