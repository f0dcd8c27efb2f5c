use Rattle.std.proofs.Common.{rules}
use Rattle.writer_header.proofs.Fronts.{front_sized}
use Rattle.writer_header.proofs.front_len.Goals as goal

pub returns : goal.returns
returns c = search (front_sized, rules)
