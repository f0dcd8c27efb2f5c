use Rattle.std.proofs.Common.{◌∙◌, rules}
use Rattle.parsers.proofs.Steps.{byte_within}
use Rattle.timestamp.proofs.Triples.{dates, first_no, first_end, second_no, second_end, third_no, third_is}
use Rattle.timestamp.proofs.date_from.Goals as goal

pub returns-in_err-year : goal.returns-in_err-year
returns-in_err-year c = search (first_no dates, rules)

pub returns-in_err-b : goal.returns-in_err-b
returns-in_err-b c = search (first_end dates, c.in_ok-year.was, rules)

pub two_from-requires : goal.two_from-requires
two_from-requires c = search (byte_within, c.in_ok-year.was, c.in_ok-b.was, rules)

pub returns-in_err-month : goal.returns-in_err-month
returns-in_err-month c = search (second_no dates, c.in_ok-year.was, c.in_ok-b.was, rules)

pub returns-in_err-d : goal.returns-in_err-d
returns-in_err-d c = c.from_residual-in_err-d.ensures ∙ second_end dates c.args.s.now c.args.at _ c.four_from.ensures _ _ c.in_ok-year.was _ c.byte_from.ensures _ c.in_ok-b.was _ c.two_from.ensures _ _ c.in_ok-month.was _ c.byte_from-2.ensures c.in_err-d.was

pub two_from-requires-2 : goal.two_from-requires-2
two_from-requires-2 c = search (byte_within, c.in_ok-year.was, c.in_ok-b.was, c.in_ok-month.was, c.in_ok-d.was, rules)

pub returns-in_err-day : goal.returns-in_err-day
returns-in_err-day c = c.from_residual-in_err-day.ensures ∙ third_no dates c.args.s.now c.args.at _ c.four_from.ensures _ _ c.in_ok-year.was _ c.byte_from.ensures _ c.in_ok-b.was _ c.two_from.ensures _ _ c.in_ok-month.was _ c.byte_from-2.ensures _ c.in_ok-d.was _ c.two_from-2.ensures c.in_err-day.was

pub returns : goal.returns
returns c = third_is dates c.args.s.now c.args.at _ c.four_from.ensures _ _ c.in_ok-year.was _ c.byte_from.ensures _ c.in_ok-b.was _ c.two_from.ensures _ _ c.in_ok-month.was _ c.byte_from-2.ensures _ c.in_ok-d.was _ c.two_from-2.ensures _ _ c.in_ok-day.was
