use Rattle.std.proofs.Common.{rules}
use Rattle.output.proofs.Writes.{wrote_part}
use Rattle.writer_header.proofs.put_stamp_at.Goals as goal

pub returns : goal.returns
returns c = search (wrote_part, rules)
