use Rattle.std.proofs.Common.{◌∙◌, refl, rules}
use Rattle.viable.proofs.Walks.{went_err}
use Rattle.reach_header.proofs.Dates.{date_laws, date_month}
use Rattle.reach_header.proofs.date.Goals as goal

pub returns-then-end-at-lt4 : goal.returns-then-end-at-lt4
returns-then-end-at-lt4 c = search (date_laws, rules)

pub returns-in_err-n : goal.returns-in_err-n
returns-in_err-n c = went_err _ _ c.from_residual.ensures ∙ date_month _ _ c.digit_end-end.result c.digit_end-end.ensures c.if-end-at-lt4.false _ c.in_err-n.ensures _ refl

pub overflow_add-at-2 : goal.overflow_add-at-2
overflow_add-at-2 c = let e = c.in_ok-n.ensures in let f = c.in_ok-n.was in search (date_laws, rules)

pub two_at-requires : goal.two_at-requires
two_at-requires c = let e = c.in_ok-n.ensures in let f = c.in_ok-n.was in search (date_laws, rules)

pub last_day-requires : goal.last_day-requires
last_day-requires c = let e = c.in_ok-n.ensures in let f = c.in_ok-n.was in search (date_laws, rules)

pub returns : goal.returns
returns c = let e = c.in_ok-n.ensures in let f = c.in_ok-n.was in search (date_laws, rules)
