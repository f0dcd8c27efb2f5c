use Rattle.std.proofs.Common.{rules}
use Rattle.stream.proofs.Calling.{line_laws, front_fits}
use Rattle.stream.proofs.from_line.Goals as goal

pub slice_bounds-hold-end : goal.slice_bounds-hold-end
slice_bounds-hold-end c = search (front_fits, rules)

pub returns-then-k-bytes : goal.returns-then-k-bytes
returns-then-k-bytes c = search (line_laws, rules)

pub returns-else-k-bytes : goal.returns-else-k-bytes
returns-else-k-bytes c = search (line_laws, rules)
