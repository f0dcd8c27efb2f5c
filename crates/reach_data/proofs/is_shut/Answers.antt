use Rattle.std.proofs.Common.{rules}
use Rattle.reach_data.proofs.Shut.{seen_clear, shut_is}
use Rattle.reach_data.proofs.is_shut.Goals as goal

pub mark-requires : goal.mark-requires
mark-requires c = search (seen_clear, shut_is, rules)

pub returns : goal.returns
returns c = search (seen_clear, shut_is, rules)
