use Rattle.message.proofs.Texts.{place_laws}
use Rattle.message.proofs.fields.place_len.Goals as goal

pub returns-then-p : goal.returns-then-p
returns-then-p c = search place_laws
