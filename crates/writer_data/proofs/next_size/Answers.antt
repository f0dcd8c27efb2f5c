use Rattle.std.proofs.Common.{rules}
use Rattle.writer_data.proofs.Steps.{next_sizes}
use Rattle.writer_data.proofs.next_size.Goals as goal

pub returns-then-rows-next : goal.returns-then-rows-next
returns-then-rows-next c = search (next_sizes, rules)

pub returns : goal.returns
returns c = search (next_sizes, rules)
