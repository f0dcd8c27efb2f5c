use Rattle.std.proofs.Common.{rules}
use Rattle.rfc3164.proofs.Lines.{line_laws}
use Rattle.rfc3164.proofs.rfc3164.Goals as goal

pub overflow_add-start : goal.overflow_add-start
overflow_add-start c = search (line_laws, rules)

pub blanks_from-next-requires : goal.blanks_from-next-requires
blanks_from-next-requires c = search (line_laws, rules)

pub rfc3164_from-requires : goal.rfc3164_from-requires
rfc3164_from-requires c = search (line_laws, rules)

pub returns-in_err-stamp : goal.returns-in_err-stamp
returns-in_err-stamp c = search (line_laws, rules)

pub body_from-requires : goal.body_from-requires
body_from-requires c = search (line_laws, c.in_ok-stamp.was, rules)

pub returns : goal.returns
returns c = search (line_laws, c.in_ok-stamp.was, rules)
