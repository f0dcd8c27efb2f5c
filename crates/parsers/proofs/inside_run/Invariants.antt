use Rattle.std.proofs.Common.{◌-◌, length}
use Rattle.parsers.specs.Steps.{is_inside}
use Rattle.base.specs.Runs.{run}
use Rattle.base.proofs.Runs.{Runs}
use Rattle.parsers.proofs.inside_run.Given as goal

abbrev pub invariant-loop-i : goal.invariant-loop-i
invariant-loop-i l = Runs is_inside l.s (run is_inside l.s) l.i

abbrev pub decreases-loop-i : goal.decreases-loop-i
decreases-loop-i l = length l.s - l.i
