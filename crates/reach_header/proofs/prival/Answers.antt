use Rattle.std.proofs.Common.{rules}
use Rattle.viable.proofs.Walks.{fits_laws}
use Rattle.reach_header.proofs.Numbers.{prival_laws}
use Rattle.reach_header.proofs.prival.Goals as goal

pub overflow_add-at : goal.overflow_add-at
overflow_add-at c = search (prival_laws, fits_laws, rules)

pub overflow_add-result : goal.overflow_add-result
overflow_add-result c = search (prival_laws, fits_laws, rules)

pub returns-then-is_digit : goal.returns-then-is_digit
returns-then-is_digit c = search (prival_laws, fits_laws, rules)

pub overflow_add-result-then-is_at : goal.overflow_add-result-then-is_at
overflow_add-result-then-is_at c = search (prival_laws, fits_laws, rules)

pub returns-then-is_at : goal.returns-then-is_at
returns-then-is_at c = search (prival_laws, fits_laws, rules)

pub overflow_add-result-then-is_over : goal.overflow_add-result-then-is_over
overflow_add-result-then-is_over c = search (prival_laws, fits_laws, rules)

pub returns-then-is_over : goal.returns-then-is_over
returns-then-is_over c = search (prival_laws, fits_laws, rules)

pub returns : goal.returns
returns c = search (prival_laws, fits_laws, rules)
