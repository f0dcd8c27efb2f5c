use Rattle.std.proofs.Common.{rules}
use Rattle.strict_data.proofs.Counting.{element_laws}
use Rattle.strict_data.proofs.element.Goals as goal

pub returns-in_err-n : goal.returns-in_err-n
returns-in_err-n c = search (element_laws, c.in_err-n.was, rules)

pub past-requires : goal.past-requires
past-requires c = search (element_laws, c.in_ok-n.was, rules)

pub returns-in_err-len : goal.returns-in_err-len
returns-in_err-len c = search (element_laws, c.in_ok-n.was, c.in_err-len.was, rules)

pub overflow_add-result : goal.overflow_add-result
overflow_add-result c = search (element_laws, c.in_ok-n.was, c.in_ok-len.was, rules)

pub returns : goal.returns
returns c = search (element_laws, c.in_ok-n.was, c.in_ok-len.was, rules)
