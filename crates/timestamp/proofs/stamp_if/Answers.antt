use Rattle.std.proofs.Common.{rules}
use Rattle.timestamp.proofs.Stamps.{stamp_laws}
use Rattle.timestamp.proofs.stamp_if.Goals as goal

pub returns-then-not-is_valid : goal.returns-then-not-is_valid
returns-then-not-is_valid c = search (stamp_laws, rules)

pub seconds_of-seconds-requires : goal.seconds_of-seconds-requires
seconds_of-seconds-requires c = search (stamp_laws, rules)

pub returns : goal.returns
returns c = search (stamp_laws, rules)
