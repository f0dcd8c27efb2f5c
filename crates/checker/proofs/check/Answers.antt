use Rattle.std.proofs.Common.{sym, ◌∙◌}
use Rattle.claims.proofs.Laws.{answers_wrong, answers_yes}
use Rattle.checker.proofs.check.Goals as goal

pub returns-then-not-holds : goal.returns-then-not-holds
returns-then-not-holds c =
    answers_wrong _ _ _ _ _ _ c.if-line-gt-LINE_LIMIT.false (rw (sym c.is_suitable.ensures ∙ c.if-not-is_suitable.false, sym c.place_suits.ensures ∙ c.if-not-place_suits.false))
    (sym c.holds.ensures ∙ c.if-not-holds.true)

pub returns : goal.returns
returns c =
    answers_yes _ _ _ _ _ _ c.if-line-gt-LINE_LIMIT.false (rw (sym c.is_suitable.ensures ∙ c.if-not-is_suitable.false, sym c.place_suits.ensures ∙ c.if-not-place_suits.false))
    (sym c.holds.ensures ∙ c.if-not-holds.false)
