use Rattle.std.proofs.Common.{rules}
use Rattle.message.proofs.Texts.{places_in, names_sizes}
use Rattle.message.proofs.fields.names_len.Goals as goal

pub tag_len-requires : goal.tag_len-requires
tag_len-requires c = search (places_in, rules)

pub place_len-requires : goal.place_len-requires
place_len-requires c = search (places_in, rules)

pub place_len-requires-in-Rfc5424 : goal.place_len-requires-in-Rfc5424
place_len-requires-in-Rfc5424 c = search (places_in, rules)

pub place_len-requires-in-Rfc5424-2 : goal.place_len-requires-in-Rfc5424-2
place_len-requires-in-Rfc5424-2 c = search (places_in, rules)

pub returns-in-Rfc3164 : goal.returns-in-Rfc3164
returns-in-Rfc3164 c = search names_sizes

pub returns-in-Rfc5424 : goal.returns-in-Rfc5424
returns-in-Rfc5424 c = search names_sizes
