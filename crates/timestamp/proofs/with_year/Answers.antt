use Rattle.std.proofs.Common.{◌∙◌, rules}
use Rattle.parsers.proofs.Steps.{number_within, some_within}
use Rattle.timestamp.proofs.Forms.{with_number, with_blanks, with_clock, with_laws}
use Rattle.timestamp.proofs.Within.{day_within}
use Rattle.timestamp.proofs.with_year.Goals as goal

pub returns-in_err-month : goal.returns-in_err-month
returns-in_err-month c = search (with_laws, rules)

pub number_from-requires : goal.number_from-requires
number_from-requires c = day_within c.args.s.now c.args.at _ c.day_from.ensures _ _ _ c.in_ok-month.was

pub returns-in_err-year : goal.returns-in_err-year
returns-in_err-year c = c.from_residual-in_err-year.ensures ∙ with_number c.args.offset c.ranges.offset c.args.s.now c.args.at _ c.day_from.ensures _ _ _ c.in_ok-month.was _ c.number_from.ensures c.in_err-year.was

pub some_blanks_from-requires : goal.some_blanks_from-requires
some_blanks_from-requires c = search (number_within, c.in_ok-month.was, c.in_ok-year.was, rules)

pub returns-in_err-c : goal.returns-in_err-c
returns-in_err-c c = c.from_residual-in_err-c.ensures ∙ with_blanks c.args.offset c.ranges.offset c.args.s.now c.args.at _ c.day_from.ensures _ _ _ c.in_ok-month.was _ c.number_from.ensures _ _ c.in_ok-year.was _ c.some_blanks_from.ensures c.in_err-c.was

pub clock_from-requires : goal.clock_from-requires
clock_from-requires c = search (some_within, c.in_ok-month.was, c.in_ok-year.was, c.in_ok-c.was, rules)

pub returns-in_err-hour : goal.returns-in_err-hour
returns-in_err-hour c = c.from_residual-in_err-hour.ensures ∙ with_clock c.args.offset c.ranges.offset c.args.s.now c.args.at _ c.day_from.ensures _ _ _ c.in_ok-month.was _ c.number_from.ensures _ _ c.in_ok-year.was _ c.some_blanks_from.ensures _ c.in_ok-c.was _ c.clock_from.ensures c.in_err-hour.was

pub returns : goal.returns
returns c = search (with_laws, c.in_ok-month.was, c.in_ok-year.was, c.in_ok-c.was, c.in_ok-hour.was, rules)
