use Rattle.std.proofs.Common.{sym, ◌∙◌}
use Rattle.checker.proofs.Memories.{strict_record, served}
use Rattle.checker.proofs.khamdoriem_check_claim.Goals as goal

pub element_count-e-requires : goal.element_count-e-requires
element_count-e-requires c = strict_record _ (sym c.holds_strict.ensures ∙ c.if-not-holds_strict.false)

pub param_count-p-requires : goal.param_count-p-requires
param_count-p-requires c = strict_record _ (sym c.holds_strict.ensures ∙ c.if-not-holds_strict.false)

pub returns : goal.returns
returns c =
    served _ _ _ _ _ (sym c.holds_strict.ensures ∙ c.if-not-holds_strict.false) _ c.strict_at.ensures _ c.element_count-e.ensures _ c.param_count-p.ensures _ c.check.ensures c.number_of.ensures
