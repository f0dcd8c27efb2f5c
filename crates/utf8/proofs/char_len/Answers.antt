use Rattle.std.proofs.Common.{rules}
use Rattle.utf8.proofs.Front.{front_laws}
use Rattle.utf8.proofs.char_len.Goals as goal

pub returns-then-s-eq0 : goal.returns-then-s-eq0
returns-then-s-eq0 c = search (front_laws, rules)

pub returns-then-n-eq0 : goal.returns-then-n-eq0
returns-then-n-eq0 c = search (front_laws, rules)

pub returns-then-s-n : goal.returns-then-s-n
returns-then-s-n c = search (front_laws, rules)

pub returns-then-n-eq1 : goal.returns-then-n-eq1
returns-then-n-eq1 c = search (front_laws, rules)

pub returns-then-not-in_range : goal.returns-then-not-in_range
returns-then-not-in_range c = search (front_laws, rules)

pub returns-then-n-eq2 : goal.returns-then-n-eq2
returns-then-n-eq2 c = search (front_laws, rules)

pub returns-then-not-in_range-2 : goal.returns-then-not-in_range-2
returns-then-not-in_range-2 c = search (front_laws, rules)

pub returns-then-n-eq3 : goal.returns-then-n-eq3
returns-then-n-eq3 c = search (front_laws, rules)

pub returns-then-not-in_range-3 : goal.returns-then-not-in_range-3
returns-then-not-in_range-3 c = search (front_laws, rules)

pub returns : goal.returns
returns c = search (front_laws, rules)
