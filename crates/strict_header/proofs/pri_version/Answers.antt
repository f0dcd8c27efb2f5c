use Rattle.std.proofs.Common.{rules}
use Rattle.strict_header.proofs.Numbers.{start_laws}
use Rattle.strict_header.proofs.pri_version.Goals as goal

pub returns-in_err-prival : goal.returns-in_err-prival
returns-in_err-prival c = search (start_laws, c.in_err-prival.was, rules)

pub past-requires : goal.past-requires
past-requires c = search (start_laws, c.in_ok-prival.was, rules)

pub returns-in_err-version : goal.returns-in_err-version
returns-in_err-version c = search (start_laws, c.in_ok-prival.was, c.in_err-version.was, rules)

pub overflow_add-result : goal.overflow_add-result
overflow_add-result c = search (start_laws, c.in_ok-prival.was, c.in_ok-version.was, rules)

pub returns : goal.returns
returns c = search (start_laws, c.in_ok-prival.was, c.in_ok-version.was, rules)
