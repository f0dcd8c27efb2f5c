use Rattle.std.proofs.Common.{◌∙◌, rules}
use Rattle.rfc5424.proofs.Headers.{blank_host_within, blank_plain_within, four_no_app, four_no_procid, four_no_msgid, four_is, four_laws}
use Rattle.rfc5424.proofs.four_from.Goals as goal

pub returns-in_err-host : goal.returns-in_err-host
returns-in_err-host c = search (four_laws, rules)

pub blank_plain-requires : goal.blank_plain-requires
blank_plain-requires c = blank_host_within c.args.s.now c.args.at _ _ _ c.in_ok-host.was c.blank_host.ensures

pub returns-in_err-app : goal.returns-in_err-app
returns-in_err-app c = c.from_residual-in_err-app.ensures ∙ four_no_app c.args.s.now c.args.at _ c.blank_host.ensures _ _ c.in_ok-host.was _ c.blank_plain.ensures c.in_err-app.was

pub blank_plain-requires-2 : goal.blank_plain-requires-2
blank_plain-requires-2 c = blank_plain_within c.args.s.now _ _ _ _ c.in_ok-app.was c.blank_plain.ensures

pub returns-in_err-procid : goal.returns-in_err-procid
returns-in_err-procid c = c.from_residual-in_err-procid.ensures ∙ four_no_procid c.args.s.now c.args.at _ c.blank_host.ensures _ _ c.in_ok-host.was _ c.blank_plain.ensures _ _ c.in_ok-app.was _ c.blank_plain-2.ensures c.in_err-procid.was

pub blank_plain-requires-3 : goal.blank_plain-requires-3
blank_plain-requires-3 c = blank_plain_within c.args.s.now _ _ _ _ c.in_ok-procid.was c.blank_plain-2.ensures

pub returns-in_err-msgid : goal.returns-in_err-msgid
returns-in_err-msgid c = c.from_residual-in_err-msgid.ensures ∙ four_no_msgid c.args.s.now c.args.at _ c.blank_host.ensures _ _ c.in_ok-host.was _ c.blank_plain.ensures _ _ c.in_ok-app.was _ c.blank_plain-2.ensures _ _ c.in_ok-procid.was _ c.blank_plain-3.ensures c.in_err-msgid.was

pub returns : goal.returns
returns c = four_is c.args.s.now c.args.at _ c.blank_host.ensures _ _ c.in_ok-host.was _ c.blank_plain.ensures _ _ c.in_ok-app.was _ c.blank_plain-2.ensures _ _ c.in_ok-procid.was _ c.blank_plain-3.ensures _ _ c.in_ok-msgid.was
