use Rattle.std.proofs.Common.{◌≤◌, length, drop}
use Rattle.white.proofs.Blanks.{Blank}
use Rattle.white.proofs.text_end.Given as goal

abbrev pub invariant-loop-end : goal.invariant-loop-end
invariant-loop-end l = (l.end ≤ length l.s) × Blank (drop l.end l.s)

abbrev pub decreases-loop-end : goal.decreases-loop-end
decreases-loop-end l = l.end
