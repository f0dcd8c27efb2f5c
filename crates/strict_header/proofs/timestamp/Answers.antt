use Rattle.std.proofs.Common.{rules}
use Rattle.strict_header.proofs.Stamps.{timestamp_laws}
use Rattle.strict_header.proofs.timestamp.Goals as goal

pub returns-then-not-is_at : goal.returns-then-not-is_at
returns-then-not-is_at c = search (timestamp_laws, rules)

pub returns-then-is_at : goal.returns-then-is_at
returns-then-is_at c = search (timestamp_laws, rules)

pub returns-in_err-stamp : goal.returns-in_err-stamp
returns-in_err-stamp c = search (timestamp_laws, c.in_err-stamp.was, rules)

pub returns-then-not-is_at-2 : goal.returns-then-not-is_at-2
returns-then-not-is_at-2 c = search (timestamp_laws, c.in_ok-stamp.was, rules)

pub returns : goal.returns
returns c = search (timestamp_laws, c.in_ok-stamp.was, rules)
