use Rattle.std.proofs.Common.{◌∙◌}
use Rattle.message.proofs.Answers.{others_laws}
use Rattle.message.proofs.others_fit.Goals as goal

pub overflow_add-size-2 : goal.overflow_add-size-2
overflow_add-size-2 c = search others_laws

pub returns-in_default : goal.returns-in_default
returns-in_default c = search others_laws

pub returns : goal.returns
returns c = c.is_some.ensures ∙ search others_laws
