use Rattle.output.proofs.Pieces.{first_fits, next_fits, two_are}
use Rattle.message_stamp.proofs.Texts.{offset_starts, offset_all, offset_is}
use Rattle.message_stamp.proofs.put_offset.Goals as goal

pub put_marked-a-requires : goal.put_marked-a-requires
put_marked-a-requires c = search (first_fits, offset_starts)

pub put_marked-requires : goal.put_marked-requires
put_marked-requires c = search (next_fits, offset_all)

pub returns : goal.returns
returns c = search (two_are, offset_is)
