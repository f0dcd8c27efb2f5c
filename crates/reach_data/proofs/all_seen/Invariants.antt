use Rattle.std.proofs.Common.{◌-◌}
use Rattle.reach_data.proofs.Shut.{Looking}
use Rattle.reach_data.proofs.all_seen.Given as goal

abbrev pub invariant-loop-c : goal.invariant-loop-c
invariant-loop-c l = Looking l.seen l.c
