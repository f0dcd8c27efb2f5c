use Rattle.checker.proofs.Walking.{Walking}
use Rattle.checker.proofs.walk.Given as goal

abbrev pub invariant-loop-p : goal.invariant-loop-p
invariant-loop-p l = Walking l.line l.fn.r l.element_count l.param_count l.elements l.params l.p-index l.open l.at
