use Rattle.pairs.specs.Odd.{unlike, element_at}
use Rattle.pairs.proofs.Weights.{Best}
use Rattle.pairs.proofs.Texts.least.Given as goal

abbrev pub invariant-loop-i : goal.invariant-loop-i
invariant-loop-i l = Best (unlike l.classes l.left l.right) (element_at l.self.text.now l.self.ends.now) l.self.count l.i l.best
