use Rattle.std.proofs.Common.{◌-◌, length}
use Rattle.record.specs.Params.{rows}
use Rattle.structured_data.specs.Steps.{Dead}
use Rattle.structured_data.proofs.Filling.{Filling}
use Rattle.structured_data.proofs.fill_data.Given as goal

-- with the rows that are left stored behind them, the rows that are stored are all
abbrev pub invariant-loop-i : goal.invariant-loop-i
invariant-loop-i l = Filling l.rules l.s l.at l.e l.p l.fn.elements (rows l.fn.params) l.elements (rows l.params) l.i l.j l.start × Dead l.s l.start l.dead

abbrev pub decreases-loop-i : goal.decreases-loop-i
decreases-loop-i l = length l.s - l.start
