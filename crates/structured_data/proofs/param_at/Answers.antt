use Rattle.std.proofs.Common.{rules}
use Rattle.structured_data.proofs.Params.{param_laws}
use Rattle.structured_data.proofs.param_at.Goals as goal

pub returns-then-name-eq0 : goal.returns-then-name-eq0
returns-then-name-eq0 c = search (param_laws, rules)

pub overflow_add-name : goal.overflow_add-name
overflow_add-name c = search (param_laws, rules)

pub blanks_from-quote-requires : goal.blanks_from-quote-requires
blanks_from-quote-requires c = search (param_laws, rules)

pub returns-in_err-end : goal.returns-in_err-end
returns-in_err-end c = search (param_laws, rules)

pub overflow_add-value : goal.overflow_add-value
overflow_add-value c = search (param_laws, rules)

pub overflow_sub-result : goal.overflow_sub-result
overflow_sub-result c = search (param_laws, rules)

pub overflow_add-result : goal.overflow_add-result
overflow_add-result c = search (param_laws, rules)

pub returns : goal.returns
returns c = search (param_laws, rules)
