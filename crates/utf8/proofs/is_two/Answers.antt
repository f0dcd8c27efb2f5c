use Rattle.std.proofs.Common.{rules}
use Rattle.utf8.proofs.Passing.{test_laws}
use Rattle.utf8.proofs.is_two.Goals as goal

pub returns-then-s-lt2 : goal.returns-then-s-lt2
returns-then-s-lt2 c h = search (test_laws, rules)

pub returns : goal.returns
returns c h = search (test_laws, rules)
