use Rattle.std.proofs.Common.{◌∙◌, rules}
use Rattle.parsers.proofs.Steps.{byte_within}
use Rattle.timestamp.proofs.Triples.{clocks, first_no, first_end, second_no, second_end, third_no, third_is}
use Rattle.timestamp.proofs.clock_from.Goals as goal

pub returns-in_err-hour : goal.returns-in_err-hour
returns-in_err-hour c = search (first_no clocks, rules)

pub returns-in_err-b : goal.returns-in_err-b
returns-in_err-b c = search (first_end clocks, c.in_ok-hour.was, rules)

pub number_from-requires-2 : goal.number_from-requires-2
number_from-requires-2 c = search (byte_within, c.in_ok-hour.was, c.in_ok-b.was, rules)

pub returns-in_err-minute : goal.returns-in_err-minute
returns-in_err-minute c = search (second_no clocks, c.in_ok-hour.was, c.in_ok-b.was, rules)

pub returns-in_err-d : goal.returns-in_err-d
returns-in_err-d c = c.from_residual-in_err-d.ensures ∙ second_end clocks c.args.s.now c.args.at _ c.number_from.ensures _ _ c.in_ok-hour.was _ c.byte_from.ensures _ c.in_ok-b.was _ c.number_from-2.ensures _ _ c.in_ok-minute.was _ c.byte_from-2.ensures c.in_err-d.was

pub number_from-requires-3 : goal.number_from-requires-3
number_from-requires-3 c = search (byte_within, c.in_ok-hour.was, c.in_ok-b.was, c.in_ok-minute.was, c.in_ok-d.was, rules)

pub returns-in_err-second : goal.returns-in_err-second
returns-in_err-second c = c.from_residual-in_err-second.ensures ∙ third_no clocks c.args.s.now c.args.at _ c.number_from.ensures _ _ c.in_ok-hour.was _ c.byte_from.ensures _ c.in_ok-b.was _ c.number_from-2.ensures _ _ c.in_ok-minute.was _ c.byte_from-2.ensures _ c.in_ok-d.was _ c.number_from-3.ensures c.in_err-second.was

pub returns : goal.returns
returns c = third_is clocks c.args.s.now c.args.at _ c.number_from.ensures _ _ c.in_ok-hour.was _ c.byte_from.ensures _ c.in_ok-b.was _ c.number_from-2.ensures _ _ c.in_ok-minute.was _ c.byte_from-2.ensures _ c.in_ok-d.was _ c.number_from-3.ensures _ _ c.in_ok-second.was
