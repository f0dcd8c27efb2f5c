use Rattle.std.proofs.Common.{rules}
use Rattle.structured_data.proofs.Hyphen.{hyphen_5424}
use Rattle.structured_data.proofs.hyphen_at.Goals as goal

pub returns-in-Rfc5424Rules : goal.returns-in-Rfc5424Rules
returns-in-Rfc5424Rules c = search (hyphen_5424, rules)
