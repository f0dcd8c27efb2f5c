use Rattle.std.proofs.Common.{sym, ◌∙◌, arith}
use Rattle.base.proofs.Tests.{clash}
use Rattle.pairs.proofs.Weights.{best_begins, best_ends, best_taken, best_left, unlike_true, unlike_false}
use Rattle.pairs.proofs.Texts.least.Goals as goal
use Rattle.pairs.proofs.Texts.least.Goals.{then-left-c+then-element-best, then-left-c+else-element-best, else-left-c}

pub loop-i-init : goal.loop-i-init
loop-i-init c = best_begins _ _ _

pub loop-i-preserved : goal.loop-i-preserved
loop-i-preserved c = elim c.if-left-c.branch [
  | then-left-c+then-element-best w ↦
      let e = w.element_at-element in
      best_taken _ _ _ _ _ c.loop-i.invariant (unlike_true _ _ _ _ _ c.from-c.ensures w.if-left-c.true) _ e.ensures.value w.if-element-best.true _ w.best-is
  | then-left-c+else-element-best w ↦
      let e = w.element_at-element in
      best_left _ _ _ _ _ c.loop-i.invariant (λ q. rw (← e.ensures.value) (w.if-element-best.false, e.ensures.upper_bound)) _ w.best-is
  | else-left-c w ↦ best_left _ _ _ _ _ c.loop-i.invariant (λ q. clash (sym q ∙ unlike_false _ _ _ _ _ c.from-c.ensures w.if-left-c.false)) _ w.best-is
]

pub returns : goal.returns
returns c = best_ends _ _ _ _ _ c.loop-i.invariant (omega arith)
