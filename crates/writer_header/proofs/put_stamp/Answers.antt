use Rattle.std.proofs.Common.{rules}
use Rattle.writer_header.proofs.Fronts.{stamp_named}
use Rattle.output.proofs.Pieces.{named_fits, named}
use Rattle.writer_header.proofs.put_stamp.Goals as goal

pub put_stamp_at-requires : goal.put_stamp_at-requires
put_stamp_at-requires c = search (named_fits, named, stamp_named, rules)

pub returns : goal.returns
returns c = search (named_fits, named, stamp_named, rules)
