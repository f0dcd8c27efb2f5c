use Rattle.std.proofs.Common.{◌-◌, length}
use Rattle.base.proofs.Runs.{Runs}
use Rattle.parsers.specs.Steps.{is_blank, blanks_from}
use Rattle.parsers.proofs.blanks_from.Given as goal

abbrev pub invariant-loop-i : goal.invariant-loop-i
invariant-loop-i l = Runs is_blank l.s (blanks_from l.s l.at) l.i

abbrev pub decreases-loop-i : goal.decreases-loop-i
decreases-loop-i l = length l.s - l.i
