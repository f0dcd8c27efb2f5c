use Rattle.std.proofs.Common.{rules}
use Rattle.stream.proofs.Calling.{feed_laws}
use Rattle.stream.proofs.feed.Goals as goal

pub returns-in-Ended : goal.returns-in-Ended
returns-in-Ended c = search (feed_laws, rules)
