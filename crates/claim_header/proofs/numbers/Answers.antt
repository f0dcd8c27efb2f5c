use Rattle.std.proofs.Common.{rules}
use Rattle.claim_header.proofs.Heads.{number_laws}
use Rattle.claim_header.proofs.numbers.Goals as goal

pub digits_of-m-requires : goal.digits_of-m-requires
digits_of-m-requires c = search (number_laws, rules)

pub digits_of-n-requires : goal.digits_of-n-requires
digits_of-n-requires c = search (number_laws, rules)

pub overflow_add-len : goal.overflow_add-len
overflow_add-len c = search (number_laws, rules)

pub overflow_add-len-2 : goal.overflow_add-len-2
overflow_add-len-2 c = search (number_laws, rules)

pub returns-then-line-len : goal.returns-then-line-len
returns-then-line-len c = search (number_laws, rules)

pub marked_at-requires : goal.marked_at-requires
marked_at-requires c = search (number_laws, rules)

pub returns-then-not-marked_at : goal.returns-then-not-marked_at
returns-then-not-marked_at c = search (number_laws, rules)

pub overflow_add-m : goal.overflow_add-m
overflow_add-m c = search (number_laws, rules)

pub marked_at-requires-2 : goal.marked_at-requires-2
marked_at-requires-2 c = search (number_laws, rules)

pub returns-then-not-marked_at-2 : goal.returns-then-not-marked_at-2
returns-then-not-marked_at-2 c = search (number_laws, rules)

pub overflow_add-m-2 : goal.overflow_add-m-2
overflow_add-m-2 c = search (number_laws, rules)

pub overflow_add-m-3 : goal.overflow_add-m-3
overflow_add-m-3 c = search (number_laws, rules)

pub is_at-requires : goal.is_at-requires
is_at-requires c = search (number_laws, rules)

pub returns-then-not-is_at : goal.returns-then-not-is_at
returns-then-not-is_at c = search (number_laws, rules)

pub returns : goal.returns
returns c = search (number_laws, rules)
