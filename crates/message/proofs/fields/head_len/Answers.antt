use Rattle.std.proofs.Common.{rules}
use Rattle.message.proofs.Texts.{places_in, head_sized}
use Rattle.message.proofs.fields.head_len.Goals as goal

pub stamp_len-requires : goal.stamp_len-requires
stamp_len-requires c = search places_in

pub place_len-requires : goal.place_len-requires
place_len-requires c = search (places_in, rules)

pub returns : goal.returns
returns c = search head_sized
