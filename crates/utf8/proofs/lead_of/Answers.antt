use Rattle.std.proofs.Common.{sym, ◌∙◌, arith}
use Rattle.utf8.specs.Lead.{lead_of}
use Rattle.utf8.proofs.Leads.{lead_1, lead_tail, lead_2, lead_E1, lead_EE, lead_F1, lead_past}
use Rattle.utf8.proofs.lead_of.Goals as goal
use Rattle.utf8.proofs.lead_of.Goals.{in_default-via-then-b-lt194, in_default-via-else-b-lt194+else-b-lt224+else-b-lt237+else-b-lt240+else-b-lt244}

pub returns-in-224 : goal.returns-in-224
unfolding lead_of
returns-in-224 c = rw c.in-224.is c.asks.ensures

pub returns-in-237 : goal.returns-in-237
unfolding lead_of
returns-in-237 c = rw c.in-237.is c.asks-in-237.ensures

pub returns-in-240 : goal.returns-in-240
unfolding lead_of
returns-in-240 c = rw c.in-240.is c.asks-in-240.ensures

pub returns-in-244 : goal.returns-in-244
unfolding lead_of
returns-in-244 c = rw c.in-244.is c.asks-in-244.ensures

pub returns-in-0-to-127 : goal.returns-in-0-to-127
returns-in-0-to-127 c = c.asks-in-0-to-127.ensures ∙ sym (lead_1 _ (omega arith))

pub returns-in-194-to-223 : goal.returns-in-194-to-223
returns-in-194-to-223 c = c.asks-in-194-to-223.ensures ∙ sym (lead_2 _ (omega arith) (omega arith))

pub returns-in-225-to-236 : goal.returns-in-225-to-236
returns-in-225-to-236 c = c.asks-in-225-to-236.ensures ∙ sym (lead_E1 _ (omega arith) (omega arith))

pub returns-in-238-to-239 : goal.returns-in-238-to-239
returns-in-238-to-239 c = c.asks-in-238-to-239.ensures ∙ sym (lead_EE _ (omega arith) (omega arith))

pub returns-in-241-to-243 : goal.returns-in-241-to-243
returns-in-241-to-243 c = c.asks-in-241-to-243.ensures ∙ sym (lead_F1 _ (omega arith) (omega arith))

pub returns-in_default : goal.returns-in_default
returns-in_default c =
    elim c.in_default.branch [
      | in_default-via-then-b-lt194 w ↦ c.asks-in_default.ensures ∙ sym (lead_tail _ (omega arith) (omega arith))
      | in_default-via-else-b-lt194+else-b-lt224+else-b-lt237+else-b-lt240+else-b-lt244 w ↦ c.asks-in_default.ensures ∙ sym (lead_past _ (omega arith))
    ]
