use Rattle.std.proofs.Common.{rules}
use Rattle.strict_data.proofs.Pieces.{param_laws}
use Rattle.strict_data.proofs.param.Goals as goal

pub returns-in_err-n : goal.returns-in_err-n
returns-in_err-n c = search (param_laws, c.in_err-n.was, rules)

pub returns-then-not-is_at : goal.returns-then-not-is_at
returns-then-not-is_at c = search (param_laws, c.in_ok-n.was, rules)

pub returns-in_err-m : goal.returns-in_err-m
returns-in_err-m c = search (param_laws, c.in_ok-n.was, c.in_err-m.was, rules)

pub overflow_add-result : goal.overflow_add-result
overflow_add-result c = search (param_laws, c.in_ok-n.was, c.in_ok-m.was, rules)

pub returns : goal.returns
returns c = search (param_laws, c.in_ok-n.was, c.in_ok-m.was, rules)
