use Rattle.std.proofs.Common.{◌-◌, length}
use Rattle.structured_data.specs.Param.{is_named}
use Rattle.base.specs.Runs.{run}
use Rattle.base.proofs.Runs.{Runs}
use Rattle.structured_data.proofs.name_run.Given as goal

abbrev pub invariant-loop-i : goal.invariant-loop-i
invariant-loop-i l = Runs is_named l.s (run is_named l.s) l.i

abbrev pub decreases-loop-i : goal.decreases-loop-i
decreases-loop-i l = length l.s - l.i
