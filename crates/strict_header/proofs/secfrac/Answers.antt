use Rattle.std.proofs.Common.{rules}
use Rattle.strict_header.proofs.Dates.{secfrac_laws}
use Rattle.strict_header.proofs.secfrac.Goals as goal

pub returns-then-not-is_at : goal.returns-then-not-is_at
returns-then-not-is_at c = search (secfrac_laws, rules)

pub returns-in_err-value : goal.returns-in_err-value
returns-in_err-value c = search (secfrac_laws, rules)

pub overflow_add-result : goal.overflow_add-result
overflow_add-result c = search (secfrac_laws, rules)

pub returns : goal.returns
returns c = search (secfrac_laws, rules)
