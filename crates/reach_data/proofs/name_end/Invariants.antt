use Rattle.std.proofs.Common.{◌+◌, ◌-◌, length, drop}
use Rattle.base.specs.Runs.{run}
use Rattle.grammar.specs.Abnf.{sd_name_byte}
use Rattle.viable.proofs.Ends.{Ends}
use Rattle.reach_data.proofs.name_end.Given as goal

abbrev pub invariant-loop-i : goal.invariant-loop-i
invariant-loop-i l = Ends sd_name_byte l.s (l.at + run sd_name_byte (drop l.at l.s)) l.i

abbrev pub decreases-loop-i : goal.decreases-loop-i
decreases-loop-i l = length l.s - l.i
