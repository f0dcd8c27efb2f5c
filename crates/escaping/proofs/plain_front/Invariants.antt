use Rattle.std.proofs.Common.{◌+◌, ◌-◌, length, drop}
use Rattle.base.specs.Runs.{run}
use Rattle.base.proofs.Runs.{Runs}
use Rattle.escaping.specs.Plain.{plain}
use Rattle.escaping.proofs.plain_front.Given as goal

abbrev pub invariant-loop-i : goal.invariant-loop-i
invariant-loop-i l = Runs plain l.s (l.from + run plain (drop l.from l.s)) l.i

abbrev pub decreases-loop-i : goal.decreases-loop-i
decreases-loop-i l = length l.s - l.i
