use Rattle.std.proofs.Common.{◌-◌, length}
use Rattle.base.specs.Runs.{run}
use Rattle.base.proofs.Runs.{Runs}
use Rattle.rfc3164.specs.Names.{is_app}
use Rattle.rfc3164.proofs.app_run.Given as goal

abbrev pub invariant-loop-i : goal.invariant-loop-i
invariant-loop-i l = Runs is_app l.s (run is_app l.s) l.i

abbrev pub decreases-loop-i : goal.decreases-loop-i
decreases-loop-i l = length l.s - l.i
