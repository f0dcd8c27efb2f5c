use Rattle.std.proofs.Common.{rules}
use Rattle.reach_header.proofs.Numbers.{few_laws}
use Rattle.reach_header.proofs.three_at.Goals as goal

pub digit_at-requires : goal.digit_at-requires
digit_at-requires c = search (few_laws, rules)

pub overflow_add-at : goal.overflow_add-at
overflow_add-at c = search (few_laws, rules)

pub digit_at-requires-2 : goal.digit_at-requires-2
digit_at-requires-2 c = search (few_laws, rules)

pub overflow_add-at-2 : goal.overflow_add-at-2
overflow_add-at-2 c = search (few_laws, rules)

pub digit_at-requires-3 : goal.digit_at-requires-3
digit_at-requires-3 c = search (few_laws, rules)

pub returns : goal.returns
returns c = search (few_laws, rules)
