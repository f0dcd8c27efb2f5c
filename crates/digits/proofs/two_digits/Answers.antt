use Rattle.std.proofs.Common.{rules, ◌∙◌}
use Rattle.digits.proofs.Fixed.{two_laws}
use Rattle.digits.proofs.two_digits.Goals as goal

pub returns-in_default : goal.returns-in_default
returns-in_default c = search (two_laws, rules)

pub returns-in_err-tens : goal.returns-in_err-tens
returns-in_err-tens c = c.from_residual.ensures ∙ search (two_laws, rules)

pub returns-in_err-ones : goal.returns-in_err-ones
returns-in_err-ones c = c.from_residual-in_err-ones.ensures ∙ search (two_laws, rules)

pub returns : goal.returns
returns c = search (two_laws, rules)
