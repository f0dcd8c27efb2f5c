use Rattle.std.proofs.Common.{refl}
use Rattle.pairs.specs.Tree.Classed.{first}
use Rattle.pairs.proofs.Texts.class_of.Goals as goal

pub returns-in-Err : goal.returns-in-Err
returns-in-Err c = first _ _ refl c.in-Err.ensures refl refl
