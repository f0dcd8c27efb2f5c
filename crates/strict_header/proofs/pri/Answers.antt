use Rattle.std.proofs.Common.{rules}
use Rattle.strict_header.proofs.Numbers.{pri_laws}
use Rattle.strict_header.proofs.pri.Goals as goal

pub returns-then-not-is_at : goal.returns-then-not-is_at
returns-then-not-is_at c = search (pri_laws, rules)

pub returns-in_err-value : goal.returns-in_err-value
returns-in_err-value c = search (pri_laws, c.in_err-value.was, rules)

pub returns-then-not-is_at-2 : goal.returns-then-not-is_at-2
returns-then-not-is_at-2 c = search (pri_laws, c.in_ok-value.was, rules)

pub returns : goal.returns
returns c = search (pri_laws, c.in_ok-value.was, rules)
