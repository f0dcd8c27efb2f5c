use Rattle.output.proofs.Pieces.{named_fits, named, unwritten}
use Rattle.message_stamp.proofs.Texts.{stamp_laws}
use Rattle.message_stamp.proofs.put_stamp.Goals as goal

pub put-requires : goal.put-requires
put-requires c = search (named_fits, stamp_laws)

pub returns-in_default : goal.returns-in_default
returns-in_default c = search (named, stamp_laws)

pub returns-in_default-shown_at : goal.returns-in_default-shown_at
returns-in_default-shown_at c = search (unwritten, stamp_laws)

pub put_shown-requires : goal.put_shown-requires
put_shown-requires c = search (named_fits, stamp_laws)

pub returns : goal.returns
returns c = search (named, stamp_laws)
