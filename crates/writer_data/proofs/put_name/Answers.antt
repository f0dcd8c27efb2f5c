use Rattle.std.proofs.Common.{rules}
use Rattle.writer_data.proofs.Steps.{name_is, name_starts}
use Rattle.output.proofs.Pieces.{starts, starts_named, first_fits, next_fits, last_fits, three_are}
use Rattle.writer_data.proofs.put_name.Goals as goal

pub put_text-b-requires : goal.put_text-b-requires
put_text-b-requires c = search (first_fits, next_fits, starts, name_starts, rules)

pub put_text-requires : goal.put_text-requires
put_text-requires c = last_fits c.requires.fits c.put-a.ensures c.put_text-b.ensures (search (starts_named, name_is))

pub returns : goal.returns
returns c = three_are c.requires.fits c.put-a.ensures c.put_text-b.ensures c.put_text.ensures (search name_is)
