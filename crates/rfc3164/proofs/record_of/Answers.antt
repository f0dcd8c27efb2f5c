use Rattle.std.proofs.Common.{rules}
use Rattle.rfc3164.proofs.Lines.{record_is}
use Rattle.rfc3164.proofs.record_of.Goals as goal

pub returns : goal.returns
returns c = search (record_is, rules)
