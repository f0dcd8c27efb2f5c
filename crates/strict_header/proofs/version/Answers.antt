use Rattle.std.proofs.Common.{rules}
use Rattle.strict_header.proofs.Numbers.{version_laws}
use Rattle.strict_header.proofs.version.Goals as goal

pub returns-then-is_at : goal.returns-then-is_at
returns-then-is_at c = search (version_laws, rules)

pub returns-in_err-value : goal.returns-in_err-value
returns-in_err-value c = search (version_laws, c.in_err-value.was, rules)

pub returns-then-not-is_at : goal.returns-then-not-is_at
returns-then-not-is_at c = search (version_laws, c.in_ok-value.was, rules)

pub returns : goal.returns
returns c = search (version_laws, c.in_ok-value.was, rules)
