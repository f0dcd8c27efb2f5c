use Rattle.std.proofs.Common.{rules}
use Rattle.writer_data.proofs.Sizes.{cap_laws}
use Rattle.writer_data.proofs.cap.Goals as goal

pub returns-then-n-gt-LINE_LIMIT : goal.returns-then-n-gt-LINE_LIMIT
returns-then-n-gt-LINE_LIMIT c = search (cap_laws, rules)

pub returns : goal.returns
returns c = search (cap_laws, rules)
