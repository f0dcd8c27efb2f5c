use Rattle.std.proofs.Common.{rules}
use Rattle.reach_header.proofs.Dates.{ranged_off, ranged_laws}
use Rattle.reach_header.proofs.ranged.Goals as goal

pub returns-then-not-is_digit : goal.returns-then-not-is_digit
returns-then-not-is_digit c = search (ranged_laws, rules)

pub overflow_sub-tens : goal.overflow_sub-tens
overflow_sub-tens c = search (ranged_laws, rules)

pub overflow_mul-tens : goal.overflow_mul-tens
overflow_mul-tens c = search (ranged_laws, rules)

pub overflow_add-tens : goal.overflow_add-tens
overflow_add-tens c = search (ranged_laws, rules)

pub returns-then-tens-low : goal.returns-then-tens-low
returns-then-tens-low c = search (ranged_laws, rules)

pub overflow_add-at : goal.overflow_add-at
overflow_add-at c = search (ranged_laws, rules)

pub overflow_add-result : goal.overflow_add-result
overflow_add-result c = search (ranged_laws, rules)

pub returns-then-not-is_digit-2 : goal.returns-then-not-is_digit-2
returns-then-not-is_digit-2 c = search (ranged_laws, rules)

pub overflow_sub-value : goal.overflow_sub-value
overflow_sub-value c = search (ranged_laws, rules)

pub overflow_add-value : goal.overflow_add-value
overflow_add-value c = search (ranged_laws, rules)

pub overflow_add-result-then-value-low : goal.overflow_add-result-then-value-low
overflow_add-result-then-value-low c = search (ranged_laws, rules)

pub returns-then-value-low : goal.returns-then-value-low
returns-then-value-low c = search (ranged_off, rules)

pub overflow_add-result-2 : goal.overflow_add-result-2
overflow_add-result-2 c = search (ranged_laws, rules)

pub returns : goal.returns
returns c = search (ranged_laws, rules)
