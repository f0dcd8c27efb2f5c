use Rattle.strict_data.proofs.Pieces.{name_is, name_not}
use Rattle.strict_data.proofs.name.Goals as goal

pub returns-then-n : goal.returns-then-n
returns-then-n c = search name_is

pub returns-else-n : goal.returns-else-n
returns-else-n c = search name_not
