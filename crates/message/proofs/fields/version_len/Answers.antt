use Rattle.message.proofs.Texts.{version_laws}
use Rattle.message.proofs.fields.version_len.Goals as goal

pub returns-in-Rfc3164 : goal.returns-in-Rfc3164
returns-in-Rfc3164 c = search version_laws

pub returns-in-Rfc5424 : goal.returns-in-Rfc5424
returns-in-Rfc5424 c = search version_laws
