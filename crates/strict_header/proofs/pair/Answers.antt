use Rattle.std.proofs.Common.{rules}
use Rattle.strict_header.proofs.Dates.{pair_laws}
use Rattle.strict_header.proofs.pair.Goals as goal

pub returns-in_err-x : goal.returns-in_err-x
returns-in_err-x c = search (pair_laws, c.in_err-x.was, rules)

pub past-requires : goal.past-requires
past-requires c = search (pair_laws, c.in_ok-x.was, rules)

pub returns-in_err-y : goal.returns-in_err-y
returns-in_err-y c = search (pair_laws, c.in_ok-x.was, c.in_err-y.was, rules)

pub overflow_add-result : goal.overflow_add-result
overflow_add-result c = search (pair_laws, c.in_ok-x.was, c.in_ok-y.was, rules)

pub returns : goal.returns
returns c = search (pair_laws, c.in_ok-x.was, c.in_ok-y.was, rules)
