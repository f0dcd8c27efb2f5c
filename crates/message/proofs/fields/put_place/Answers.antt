use Rattle.message.proofs.Texts.{place_laws}
use Rattle.output.proofs.Pieces.{named_fits, named}
use Rattle.message.proofs.fields.put_place.Goals as goal

pub put_part-requires-clause-fits : goal.put_part-requires-clause-fits
put_part-requires-clause-fits c = search (named_fits, place_laws)

pub returns-then-p : goal.returns-then-p
returns-then-p c = search (named, place_laws)

pub put-requires : goal.put-requires
put-requires c = search (named_fits, place_laws)

pub returns : goal.returns
returns c = search (named, place_laws)
