use Rattle.std.proofs.Common.{rules}
use Rattle.writer_header.proofs.Fronts.{part_sizes}
use Rattle.writer_header.proofs.part_len.Goals as goal

pub returns-then-p-eq0 : goal.returns-then-p-eq0
returns-then-p-eq0 c = search (part_sizes, rules)

pub returns : goal.returns
returns c = search (part_sizes, rules)
