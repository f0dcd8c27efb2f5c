use Rattle.std.proofs.Common.{rules}
use Rattle.strict_data.proofs.Counting.{data_laws}
use Rattle.strict_data.proofs.Differing.{among_all, rows_noted}
use Rattle.strict_data.proofs.count_data.Goals as goal

pub returns-then-is_at : goal.returns-then-is_at
returns-then-is_at c = search (data_laws, rules)

pub returns-in_err-len : goal.returns-in_err-len
returns-in_err-len c = search (data_laws, c.in_err-len.was, rules)

pub returns-then-elements-eq0 : goal.returns-then-elements-eq0
returns-then-elements-eq0 c = search (data_laws, c.in_ok-len.was, rules)

pub returns-then-not-ids_differ : goal.returns-then-not-ids_differ
returns-then-not-ids_differ c = search (data_laws, c.in_ok-len.was, rules)

pub returns : goal.returns
returns c = search (data_laws, c.in_ok-len.was, rules)
