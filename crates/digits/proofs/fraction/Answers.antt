use Rattle.std.proofs.Common.{rules, ◌∙◌}
use Rattle.digits.proofs.Fractions.{fraction_laws}
use Rattle.digits.proofs.fraction.Goals as goal

pub returns-in_err-value : goal.returns-in_err-value
returns-in_err-value c = c.from_residual.ensures ∙ search (fraction_laws, rules)

pub returns-then-most-len : goal.returns-then-most-len
returns-then-most-len c = search (fraction_laws, rules)

pub overflow_mul-result : goal.overflow_mul-result
overflow_mul-result c = search (fraction_laws, rules)

pub returns : goal.returns
returns c = search (fraction_laws, rules)
