use Rattle.std.proofs.Common.{rules}
use Rattle.writer_header.proofs.Fronts.{message_none, message_starts, message_is}
use Rattle.output.proofs.Pieces.{starts_named, first_fits, next_fits, two_are, unwritten}
use Rattle.writer_header.proofs.put_message.Goals as goal

pub returns-then-p-eq0 : goal.returns-then-p-eq0
returns-then-p-eq0 c = search (unwritten, message_none, message_is, rules)

pub put-a-requires : goal.put-a-requires
put-a-requires c = search (first_fits, message_starts)

pub put_text-requires : goal.put_text-requires
put_text-requires c = search (next_fits, starts_named, message_is)

pub returns : goal.returns
returns c = search (two_are, message_is)
