use Rattle.std.proofs.Common.{rules}
use Rattle.timestamp.proofs.Stamps.{utc_laws}
use Rattle.timestamp.proofs.utc_if.Goals as goal

pub returns-then-not-is_valid : goal.returns-then-not-is_valid
returns-then-not-is_valid c = search (utc_laws, rules)

pub seconds_of-seconds-requires : goal.seconds_of-seconds-requires
seconds_of-seconds-requires c = search (utc_laws, rules)

pub returns-then-not-is_shown : goal.returns-then-not-is_shown
returns-then-not-is_shown c = search (utc_laws, rules)

pub returns : goal.returns
returns c = search (utc_laws, rules)
