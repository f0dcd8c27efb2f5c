use Rattle.std.proofs.Common.{◌∙◌, rules}
use Rattle.parsers.proofs.Steps.{blanks_within}
use Rattle.rfc5424.proofs.Headers.{four_within}
use Rattle.rfc5424.proofs.Lines.{body_no_data, body_data, body_is, body_laws}
use Rattle.rfc5424.proofs.body_from.Goals as goal

pub returns-in_err-host : goal.returns-in_err-host
returns-in_err-host c = search (body_laws, rules)

pub blanks_from-b-requires : goal.blanks_from-b-requires
blanks_from-b-requires c = four_within c.args.s.now c.args.at _ c.four_from.ensures _ _ _ _ _ c.in_ok-host.was

pub returns-in_err-counts : goal.returns-in_err-counts
returns-in_err-counts c = c.from_residual-in_err-counts.ensures ∙ body_no_data c.args.pri c.args.version c.args.stamp c.args.s.now c.args.at _ c.four_from.ensures _ _ _ _ _ c.in_ok-host.was _ c.blanks_from-b.ensures _ c.count_data.ensures c.in_err-counts.was

pub blanks_from-message-requires : goal.blanks_from-message-requires
blanks_from-message-requires c = body_data c.args.pri c.args.version c.args.stamp c.args.s.now c.args.at _ c.four_from.ensures _ _ _ _ _ c.in_ok-host.was _ c.blanks_from-b.ensures _ c.count_data.ensures _ c.in_ok-counts.was

pub overflow_sub-read : goal.overflow_sub-read
overflow_sub-read c = blanks_within _ _ _ c.blanks_from-message.ensures (body_data c.args.pri c.args.version c.args.stamp c.args.s.now c.args.at _ c.four_from.ensures _ _ _ _ _ c.in_ok-host.was _ c.blanks_from-b.ensures _ c.count_data.ensures _ c.in_ok-counts.was)

pub returns : goal.returns
returns c = body_is c.args.pri c.args.version c.args.stamp c.args.s.now c.args.at _ c.four_from.ensures _ _ _ _ _ c.in_ok-host.was _ c.blanks_from-b.ensures _ c.count_data.ensures _ c.in_ok-counts.was _ c.blanks_from-message.ensures
