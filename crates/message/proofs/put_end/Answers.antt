use Rattle.message.proofs.Answers.{end_laws}
use Rattle.output.proofs.Pieces.{named_fits, named, unwritten}
use Rattle.message.proofs.put_end.Goals as goal

pub put-requires : goal.put-requires
put-requires c = search (named_fits, end_laws)

pub returns-then-count-ne0 : goal.returns-then-count-ne0
returns-then-count-ne0 c = search (named, end_laws)

pub put_text-requires : goal.put_text-requires
put_text-requires c = search (named_fits, end_laws)

pub returns-in-Rfc3164 : goal.returns-in-Rfc3164
returns-in-Rfc3164 c = search (unwritten, end_laws)

pub returns-in-Rfc5424 : goal.returns-in-Rfc5424
returns-in-Rfc5424 c = search (named, end_laws)
