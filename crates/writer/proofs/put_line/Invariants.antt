use Rattle.record.specs.Params.{rows}
use Rattle.writer.proofs.Lefts.{distance}
use Rattle.writer.proofs.Putting.{Putting}
use Rattle.writer.proofs.put_line.Given as goal

abbrev pub invariant-loop-w : goal.invariant-loop-w
invariant-loop-w l = Putting l.text l.fn.h l.elements (rows l.params) l.initial.out l.initial.w.at l.out l.w

abbrev pub decreases-loop-w : goal.decreases-loop-w
decreases-loop-w l = distance l.fn.h.element_count l.fn.h.param_count l.w
