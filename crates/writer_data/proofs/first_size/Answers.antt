use Rattle.std.proofs.Common.{rules}
use Rattle.writer_data.proofs.Steps.{first_sizes}
use Rattle.writer_data.proofs.first_size.Goals as goal

pub returns-then-rows-eq0 : goal.returns-then-rows-eq0
returns-then-rows-eq0 c = search (first_sizes, rules)

pub returns : goal.returns
returns c = search (first_sizes, rules)
