use Rattle.std.proofs.Common.{rules}
use Rattle.white.proofs.Bytes.{front_laws}
use Rattle.white.proofs.white_len.Goals as goal

pub returns-then-s-eq0 : goal.returns-then-s-eq0
returns-then-s-eq0 c = search (front_laws, rules)

pub returns-then-is_blank : goal.returns-then-is_blank
returns-then-is_blank c = search (front_laws, rules)

pub returns-then-b-lt128 : goal.returns-then-b-lt128
returns-then-b-lt128 c = search (front_laws, rules)

pub returns : goal.returns
returns c = search (front_laws, rules)
