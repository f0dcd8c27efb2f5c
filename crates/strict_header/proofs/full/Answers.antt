use Rattle.std.proofs.Common.{◌∙◌, rules}
use Rattle.strict_header.proofs.Stamps.{date_within, clock_within, ending_within, piece_laws, full_laws}
use Rattle.strict_header.proofs.Steps.{sums_fit}
use Rattle.strict_header.proofs.full.Goals as goal

pub returns-in_err-year : goal.returns-in_err-year
returns-in_err-year c = search (full_laws, c.in_err-year.was, rules)

pub past-t-requires : goal.past-t-requires
past-t-requires c = search (piece_laws, c.in_ok-year.was, rules)

pub returns-in_err-hour : goal.returns-in_err-hour
returns-in_err-hour c = search (full_laws, c.in_ok-year.was, c.in_err-hour.was, rules)

pub past-requires : goal.past-requires
past-requires c = search (piece_laws, c.in_ok-year.was, c.in_ok-hour.was, rules)

pub returns-in_err-nanos : goal.returns-in_err-nanos
returns-in_err-nanos c = c.from_residual-in_err-nanos.ensures ∙ search (full_laws, c.in_ok-year.was, c.in_ok-hour.was, c.in_err-nanos.was, rules)

pub seconds_of-requires : goal.seconds_of-requires
seconds_of-requires c = search (full_laws, c.in_ok-year.was, c.in_ok-hour.was, c.in_ok-nanos.was, rules)

pub overflow_add-result : goal.overflow_add-result
overflow_add-result c = search (piece_laws, c.in_ok-year.was, c.in_ok-hour.was, c.in_ok-nanos.was, rules)

pub overflow_add-result-2 : goal.overflow_add-result-2
overflow_add-result-2 c = search (sums_fit, date_within, clock_within, ending_within, c.in_ok-year.was, c.in_ok-hour.was, c.in_ok-nanos.was)

pub returns : goal.returns
returns c = search (full_laws, c.in_ok-year.was, c.in_ok-hour.was, c.in_ok-nanos.was, rules)
