use Rattle.std.proofs.Common.{arith, ◌∙◌}
use Rattle.std.proofs.lemmas.Int.{ints}
use Rattle.calendar.proofs.Instants.{shown_unfit, shown_early, shown_late, shown_in}
use Rattle.calendar.proofs.shown_at.Goals as goal

pub returns-in_err-local : goal.returns-in_err-local
returns-in_err-local c = c.from_residual.ensures ∙ shown_unfit _ _ (λ f. c.in_err-local.ensures (omega (arith, ints, f)))

pub returns-in_err-n : goal.returns-in_err-n
returns-in_err-n c =
    c.from_residual-in_err-n.ensures
    ∙ shown_early _ _ _ c.try_from.result (omega (arith, ints, c.in_ok-local.ensures)) c.try_from.ensures (omega (arith, ints, c.in_ok-local.ensures)) c.in_err-n.ensures.value

pub returns-then-n-lt-ALL_SECONDS : goal.returns-then-n-lt-ALL_SECONDS
returns-then-n-lt-ALL_SECONDS c =
    shown_in _ _ _ c.try_from.result (omega (arith, ints, c.in_ok-local.ensures)) c.try_from.ensures _ c.in_ok-n.ensures.value (omega arith) _ c.clock_of.ensures

pub returns-else-n-lt-ALL_SECONDS : goal.returns-else-n-lt-ALL_SECONDS
returns-else-n-lt-ALL_SECONDS c =
    shown_late _ _ _ c.try_from.result (omega (arith, ints, c.in_ok-local.ensures)) c.try_from.ensures _ c.in_ok-n.ensures.value (omega arith)
