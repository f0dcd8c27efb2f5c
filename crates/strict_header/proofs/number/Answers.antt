use Rattle.std.proofs.Common.{rules}
use Rattle.strict_header.proofs.Numbers.{number_laws}
use Rattle.strict_header.proofs.number.Goals as goal

pub returns-in_err-value : goal.returns-in_err-value
returns-in_err-value c = search (number_laws, c.in_err-value.was, rules)

pub returns-then-is_at-len : goal.returns-then-is_at-len
returns-then-is_at-len c = search (number_laws, c.in_ok-value.was, rules)

pub returns : goal.returns
returns c = search (number_laws, c.in_ok-value.was, rules)
