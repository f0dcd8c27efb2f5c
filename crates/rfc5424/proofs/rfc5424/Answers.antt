use Rattle.std.proofs.Common.{rules}
use Rattle.rfc5424.proofs.Headers.{start_within}
use Rattle.rfc5424.proofs.Lines.{line_laws}
use Rattle.rfc5424.proofs.rfc5424.Goals as goal

pub overflow_add-start : goal.overflow_add-start
overflow_add-start c = search (line_laws, rules)

pub start_from-requires : goal.start_from-requires
start_from-requires c = search (line_laws, rules)

pub returns-in_err-version : goal.returns-in_err-version
returns-in_err-version c = search (line_laws, rules)

pub body_from-requires : goal.body_from-requires
body_from-requires c = start_within c.args.s.now _ _ c.start_from.ensures _ _ _ c.in_ok-version.was

pub returns : goal.returns
returns c = search (line_laws, c.in_ok-version.was, rules)
