use Rattle.std.proofs.Common.{rules}
use Rattle.reach_header.proofs.Numbers.{byte_out}
use Rattle.reach_header.proofs.byte_at.Goals as goal

pub returns-else-at-s : goal.returns-else-at-s
returns-else-at-s c = search (byte_out, rules)
