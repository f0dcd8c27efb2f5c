use Rattle.std.proofs.Common.{rules}
use Rattle.writer.proofs.Covered.{record_is}
use Rattle.writer.proofs.record_in.Goals as goal

pub returns : goal.returns
returns c = search (record_is, rules)
