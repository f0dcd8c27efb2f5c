use Rattle.std.proofs.Common.{◌+◌, ◌-◌, length, drop}
use Rattle.base.specs.Runs.{run}
use Rattle.grammar.specs.Abnf.{print_us_ascii}
use Rattle.viable.proofs.Ends.{Ends}
use Rattle.reach_header.proofs.print_end.Given as goal

abbrev pub invariant-loop-i : goal.invariant-loop-i
invariant-loop-i l = Ends print_us_ascii l.s (l.at + run print_us_ascii (drop l.at l.s)) l.i

abbrev pub decreases-loop-i : goal.decreases-loop-i
decreases-loop-i l = length l.s - l.i
