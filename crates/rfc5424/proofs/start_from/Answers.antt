use Rattle.std.proofs.Common.{◌∙◌, rules}
use Rattle.parsers.proofs.Steps.{number_within, some_within}
use Rattle.rfc5424.proofs.Headers.{start_joined, start_unstamped, start_is, start_laws}
use Rattle.rfc5424.proofs.start_from.Goals as goal

pub returns-in_err-version : goal.returns-in_err-version
returns-in_err-version c = search (start_laws, rules)

pub some_blanks_from-requires : goal.some_blanks_from-requires
some_blanks_from-requires c = number_within c.args.s.now c.args.at _ c.number_from.ensures _ _ c.in_ok-version.was

pub returns-in_err-b : goal.returns-in_err-b
returns-in_err-b c = c.from_residual-in_err-b.ensures ∙ start_joined c.args.s.now c.args.at _ c.number_from.ensures _ _ c.in_ok-version.was _ c.some_blanks_from.ensures c.in_err-b.was

pub rfc3339_from-requires : goal.rfc3339_from-requires
rfc3339_from-requires c = some_within c.args.s.now _ _ c.some_blanks_from.ensures _ c.in_ok-b.was

pub returns-in_err-stamp : goal.returns-in_err-stamp
returns-in_err-stamp c = c.from_residual-in_err-stamp.ensures ∙ start_unstamped c.args.s.now c.args.at _ c.number_from.ensures _ _ c.in_ok-version.was _ c.some_blanks_from.ensures _ c.in_ok-b.was _ c.rfc3339_from.ensures c.in_err-stamp.was

pub returns : goal.returns
returns c = start_is c.args.s.now c.args.at _ c.number_from.ensures _ _ c.in_ok-version.was _ c.some_blanks_from.ensures _ c.in_ok-b.was _ c.rfc3339_from.ensures _ _ c.in_ok-stamp.was
