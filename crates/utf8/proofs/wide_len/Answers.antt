use Rattle.std.proofs.Common.{rules}
use Rattle.utf8.proofs.Passing.{test_laws}
use Rattle.utf8.proofs.wide_len.Goals as goal

pub returns-then-is_two : goal.returns-then-is_two
returns-then-is_two c = search (test_laws, rules)

pub returns-then-is_three : goal.returns-then-is_three
returns-then-is_three c = search (test_laws, rules)

pub returns : goal.returns
returns c = search (test_laws, rules)
