use Rattle.std.proofs.Common.{◌-◌}
use Rattle.record.specs.Params.{rows}
use Rattle.strict_data.proofs.Filling.{Walk}
use Rattle.strict_data.proofs.fill_data.Given as goal

-- the rows that are stored and the rows of what is left are all the rows
abbrev pub invariant-loop-i : goal.invariant-loop-i
invariant-loop-i l = Walk l.line l.at l.end l.fn.elements (rows l.fn.params) l.elements (rows l.params) l.i l.e l.p

abbrev pub decreases-loop-i : goal.decreases-loop-i
decreases-loop-i l = l.end - l.i
