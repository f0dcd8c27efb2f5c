use Rattle.std.proofs.Common.{◌-◌, length}
use Rattle.base.specs.Runs.{run}
use Rattle.base.proofs.Runs.{Runs}
use Rattle.stream.specs.Steps.{not_lf}
use Rattle.stream.proofs.free_front.Given as goal

abbrev pub invariant-loop-i : goal.invariant-loop-i
invariant-loop-i l = Runs not_lf l.s (run not_lf l.s) l.i

abbrev pub decreases-loop-i : goal.decreases-loop-i
decreases-loop-i l = length l.s - l.i
