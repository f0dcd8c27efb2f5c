use Rattle.std.proofs.Common.{rules}
use Rattle.calendar.proofs.Clocks.{clock_laws}
use Rattle.calendar.proofs.clock_of.Goals as goal

pub days_before_year-requires : goal.days_before_year-requires
days_before_year-requires c = search (clock_laws, rules)

pub overflow_sub-left : goal.overflow_sub-left
overflow_sub-left c = search (clock_laws, rules)

pub month_of-m-requires : goal.month_of-m-requires
month_of-m-requires c = search (clock_laws, rules)

pub days_of_months-first-requires : goal.days_of_months-first-requires
days_of_months-first-requires c = search (clock_laws, rules)

pub overflow_add-result : goal.overflow_add-result
overflow_add-result c = search (clock_laws, rules)

pub overflow_sub-result : goal.overflow_sub-result
overflow_sub-result c = search (clock_laws, rules)

pub returns : goal.returns
returns c = search (clock_laws, rules)
