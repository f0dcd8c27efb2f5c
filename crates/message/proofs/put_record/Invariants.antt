use Rattle.record.specs.Params.{rows}
use Rattle.message.proofs.Turns.{Walk}
use Rattle.message.proofs.put_record.Given as goal

-- `i` parameters are written, element `k` is open
abbrev pub invariant-loop-p : goal.invariant-loop-p
invariant-loop-p l = Walk l.line l.fn.r l.element_count l.param_count l.elements (rows l.params) l.initial.out l.initial.at l.out l.at l.k l.p-index
