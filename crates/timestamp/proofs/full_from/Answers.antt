use Rattle.std.proofs.Common.{◌∙◌, rules}
use Rattle.timestamp.proofs.Fixed.{either_within}
use Rattle.timestamp.proofs.Within.{time_within}
use Rattle.timestamp.proofs.Stamps.{full_letter, full_time, full_laws}
use Rattle.timestamp.proofs.Widths.{full_short}
use Rattle.timestamp.proofs.full_from.Goals as goal

pub returns-then-s-at-lt19 : goal.returns-then-s-at-lt19
returns-then-s-at-lt19 c = search (full_short, rules)

pub returns-in_err-year : goal.returns-in_err-year
returns-in_err-year c = search (full_laws, rules)

pub returns-in_err-b : goal.returns-in_err-b
returns-in_err-b c = c.from_residual-in_err-b.ensures ∙ full_letter c.args.s.now c.args.at _ c.date_from.ensures _ _ _ _ c.in_ok-year.was _ c.either_from.ensures c.in_err-b.was

pub time_from-requires : goal.time_from-requires
time_from-requires c = search (either_within, c.in_ok-year.was, c.in_ok-b.was, rules)

pub returns-in_err-hour : goal.returns-in_err-hour
returns-in_err-hour c = c.from_residual-in_err-hour.ensures ∙ full_time c.args.s.now c.args.at _ c.date_from.ensures _ _ _ _ c.in_ok-year.was _ c.either_from.ensures _ c.in_ok-b.was _ c.time_from.ensures c.in_err-hour.was

pub end_from-requires : goal.end_from-requires
end_from-requires c = time_within c.args.s.now _ _ _ _ _ _ c.in_ok-hour.was c.time_from.ensures

pub returns : goal.returns
returns c = search (full_laws, c.in_ok-year.was, c.in_ok-b.was, c.in_ok-hour.was, rules)
