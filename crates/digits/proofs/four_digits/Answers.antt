use Rattle.std.proofs.Common.{rules, ◌∙◌}
use Rattle.digits.proofs.Fixed.{four_laws}
use Rattle.digits.proofs.four_digits.Goals as goal

pub returns-in_err-top : goal.returns-in_err-top
returns-in_err-top c = c.from_residual.ensures ∙ search (four_laws, rules)

pub past-requires : goal.past-requires
past-requires c = search (four_laws, rules)

pub returns-in_err-low : goal.returns-in_err-low
returns-in_err-low c = c.from_residual-in_err-low.ensures ∙ search (four_laws, rules)

pub overflow_mul-result : goal.overflow_mul-result
overflow_mul-result c = search (four_laws, rules)

pub overflow_add-result : goal.overflow_add-result
overflow_add-result c = search (four_laws, rules)

pub returns : goal.returns
returns c = search (four_laws, rules)
