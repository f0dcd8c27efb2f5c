use Rattle.std.proofs.Common.{◌-◌, length}
use Rattle.record.specs.Params.{rows}
use Rattle.structured_data.proofs.Entries.{Storing}
use Rattle.structured_data.proofs.fill_params.Given as goal

-- the rows of the parameters that are passed stand in the table
abbrev pub invariant-loop-start : goal.invariant-loop-start
invariant-loop-start l = Storing l.s l.e l.at (rows l.fn.params) l.first l.end (rows l.params) l.count l.next l.start

abbrev pub decreases-loop-start : goal.decreases-loop-start
decreases-loop-start l = length l.s - l.start
