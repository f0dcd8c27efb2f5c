use Rattle.std.proofs.Common.{◌∙◌, rules}
use Rattle.claim_header.proofs.Heads.{head_no_facility, head_no_severity, head_laws}
use Rattle.claim_header.proofs.head.Goals as goal

pub returns-in_err-f : goal.returns-in_err-f
returns-in_err-f c = c.from_residual.ensures ∙ head_no_facility _ _ _ _ c.in_err-f.was

pub returns-in_err-s : goal.returns-in_err-s
returns-in_err-s c = c.from_residual-in_err-s.ensures ∙ head_no_severity _ _ _ _ _ c.in_ok-f.was c.in_err-s.was

pub returns-in_default : goal.returns-in_default
returns-in_default c = let f = c.in_ok-f.was in let s = c.in_ok-s.was in search (head_laws, rules)

pub returns-then-not-f-s : goal.returns-then-not-f-s
returns-then-not-f-s c = let f = c.in_ok-f.was in let s = c.in_ok-s.was in search (head_laws, rules)

pub returns : goal.returns
returns c = let f = c.in_ok-f.was in let s = c.in_ok-s.was in search (head_laws, rules)
