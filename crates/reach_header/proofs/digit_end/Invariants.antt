use Rattle.std.proofs.Common.{◌+◌, ◌-◌, length, drop}
use Rattle.base.specs.Runs.{run}
use Rattle.grammar.specs.Abnf.{is_digit}
use Rattle.viable.proofs.Ends.{Ends}
use Rattle.reach_header.proofs.digit_end.Given as goal

abbrev pub invariant-loop-i : goal.invariant-loop-i
invariant-loop-i l = Ends is_digit l.s (l.at + run is_digit (drop l.at l.s)) l.i

abbrev pub decreases-loop-i : goal.decreases-loop-i
decreases-loop-i l = length l.s - l.i
