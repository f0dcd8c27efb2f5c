use Rattle.std.proofs.Common.{rules}
use Rattle.writer_header.proofs.Fronts.{part_laws}
use Rattle.output.proofs.Pieces.{named_fits, named}
use Rattle.writer_header.proofs.put_part.Goals as goal

pub put-requires : goal.put-requires
put-requires c = search (named_fits, named, part_laws, rules)

pub returns-then-p-eq0 : goal.returns-then-p-eq0
returns-then-p-eq0 c = search (named_fits, named, part_laws, rules)

pub put_text-requires : goal.put_text-requires
put_text-requires c = search (named_fits, named, part_laws, rules)

pub returns : goal.returns
returns c = search (named_fits, named, part_laws, rules)
