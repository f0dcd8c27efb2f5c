use Rattle.std.proofs.Common.{rules}
use Rattle.writer_header.proofs.Fronts.{stamp_suits_lem, stamp_sized}
use Rattle.writer_header.proofs.stamp_len.Goals as goal

pub stamp_len-requires : goal.stamp_len-requires
stamp_len-requires c = search (stamp_suits_lem, stamp_sized, rules)

pub returns : goal.returns
returns c = search (stamp_suits_lem, stamp_sized, rules)
