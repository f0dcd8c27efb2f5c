use Rattle.message.proofs.Texts.{places_in, names_laws}
use Rattle.output.proofs.Pieces.{named_fits, named}
use Rattle.message.proofs.fields.put_names.Goals as goal

pub put_tag-requires-clause-fits : goal.put_tag-requires-clause-fits
put_tag-requires-clause-fits c = search (named_fits, names_laws)

pub put_tag-requires-clause-len_in_bounds : goal.put_tag-requires-clause-len_in_bounds
put_tag-requires-clause-len_in_bounds c = search places_in

pub put_tag-requires-clause-len_in_bounds_2 : goal.put_tag-requires-clause-len_in_bounds_2
put_tag-requires-clause-len_in_bounds_2 c = search places_in

pub put_ids-requires-clause-fits : goal.put_ids-requires-clause-fits
put_ids-requires-clause-fits c = search (named_fits, names_laws)

pub returns-in-Rfc3164 : goal.returns-in-Rfc3164
returns-in-Rfc3164 c = search (named, names_laws)

pub returns-in-Rfc5424 : goal.returns-in-Rfc5424
returns-in-Rfc5424 c = search (named, names_laws)
