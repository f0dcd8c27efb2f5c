use Rattle.std.proofs.Common.{rules}
use Rattle.utf8.proofs.Passing.{test_laws}
use Rattle.utf8.proofs.is_three.Goals as goal

pub returns-then-s-lt3 : goal.returns-then-s-lt3
returns-then-s-lt3 c h = search (test_laws, rules)

pub returns : goal.returns
returns c h = search (test_laws, rules)
