use Rattle.std.proofs.Common.{rules}
use Rattle.structured_data.proofs.Counting.{counts_laws}
use Rattle.structured_data.proofs.counts_at.Goals as goal

pub returns-then-next-at : goal.returns-then-next-at
returns-then-next-at c = search (counts_laws, rules)

pub returns : goal.returns
returns c = search (counts_laws, rules)
