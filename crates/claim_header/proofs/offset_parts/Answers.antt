use Rattle.std.proofs.Common.{rules}
use Rattle.claim_header.proofs.Zones.{split_is}
use Rattle.claim_header.proofs.offset_parts.Goals as goal

pub returns : goal.returns
returns c = search (split_is, rules)
