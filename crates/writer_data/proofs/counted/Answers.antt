use Rattle.std.proofs.Common.{rules}
use Rattle.writer_data.proofs.Steps.{counted_is}
use Rattle.writer_data.proofs.counted.Goals as goal

pub returns : goal.returns
returns c = search (counted_is, rules)
