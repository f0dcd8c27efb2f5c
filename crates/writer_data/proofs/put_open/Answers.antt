use Rattle.std.proofs.Common.{rules}
use Rattle.writer_data.proofs.Steps.{open_is}
use Rattle.output.proofs.Pieces.{starts, starts_named, first_fits, next_fits, two_are}
use Rattle.writer_data.proofs.put_open.Goals as goal

pub put_text-requires : goal.put_text-requires
put_text-requires c = search (first_fits, next_fits, two_are, starts_named, starts, open_is, rules)

pub returns : goal.returns
returns c = search (first_fits, next_fits, two_are, starts_named, starts, open_is, rules)
