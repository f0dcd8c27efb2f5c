use Rattle.std.proofs.Common.{rules}
use Rattle.strict_data.proofs.Pieces.{quoted_laws}
use Rattle.strict_data.proofs.quoted.Goals as goal

pub returns-then-not-is_at : goal.returns-then-not-is_at
returns-then-not-is_at c = search (quoted_laws, rules)

pub returns-in_err-n : goal.returns-in_err-n
returns-in_err-n c = search (quoted_laws, c.in_err-n.was, rules)

pub overflow_add-result : goal.overflow_add-result
overflow_add-result c = search (quoted_laws, c.in_ok-n.was, rules)

pub returns : goal.returns
returns c = search (quoted_laws, c.in_ok-n.was, rules)
