use Rattle.message.proofs.Texts.{version_laws}
use Rattle.output.proofs.Pieces.{named_fits, named, unwritten}
use Rattle.message.proofs.fields.put_version.Goals as goal

pub put_number-requires : goal.put_number-requires
put_number-requires c = search (named_fits, version_laws)

pub returns-in-Rfc3164 : goal.returns-in-Rfc3164
returns-in-Rfc3164 c = search (unwritten, version_laws)

pub returns-in-Rfc5424 : goal.returns-in-Rfc5424
returns-in-Rfc5424 c = search (named, version_laws)
