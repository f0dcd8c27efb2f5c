use Rattle.std.proofs.Common.{arith, rules}
use Rattle.stream.proofs.Calling.{count_more, count_refused, count_fits, count_content}
use Rattle.stream.proofs.from_count.Goals as goal

pub returns-in_default : goal.returns-in_default
returns-in_default c = count_more _ _ _ _ c.count_front-value.ensures _ c.past.ensures c.in_default.ensures.cases

pub returns-then-not-space_on : goal.returns-then-not-space_on
returns-then-not-space_on c = count_refused _ _ _ _ c.count_front-value.ensures _ c.past.ensures _ _ c.in-Some.ensures.cases (search rules)

pub overflow_add-result-3 : goal.overflow_add-result-3
overflow_add-result-3 c = omega (arith, count_fits _ _ _ _ c.count_front-value.ensures _ c.past.ensures _ _ c.in-Some.ensures.cases _ _ c.from_content-r.ensures)

pub returns : goal.returns
returns c = count_content _ _ _ _ c.count_front-value.ensures _ c.past.ensures _ _ c.in-Some.ensures.cases _ _ c.from_content-r.ensures (search rules)
