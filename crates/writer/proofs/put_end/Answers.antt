use Rattle.std.proofs.Common.{rules}
use Rattle.fitting.proofs.Tests.{places_in}
use Rattle.writer.proofs.put_end.Goals as goal

pub put_message-requires-clause-len_in_bounds : goal.put_message-requires-clause-len_in_bounds
put_message-requires-clause-len_in_bounds c = search (places_in, rules)
