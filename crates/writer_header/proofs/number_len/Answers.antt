use Rattle.std.proofs.Common.{rules}
use Rattle.writer_header.proofs.Fronts.{number_sized}
use Rattle.writer_header.proofs.number_len.Goals as goal

pub returns : goal.returns
returns c = search (number_sized, rules)
