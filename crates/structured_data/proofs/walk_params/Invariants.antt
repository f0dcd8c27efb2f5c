use Rattle.std.proofs.Common.{◌-◌, length}
use Rattle.structured_data.proofs.Entries.{Walked}
use Rattle.structured_data.proofs.walk_params.Given as goal

abbrev pub invariant-loop-start : goal.invariant-loop-start
invariant-loop-start l = Walked l.s 0 l.at l.count l.next l.start

abbrev pub decreases-loop-start : goal.decreases-loop-start
decreases-loop-start l = length l.s - l.start
