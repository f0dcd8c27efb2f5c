use Rattle.std.proofs.Common.{◌-◌, length}
use Rattle.base.specs.Runs.{run}
use Rattle.base.proofs.Runs.{Runs}
use Rattle.grammar.specs.Abnf.{sd_name_byte}
use Rattle.strict_data.proofs.name_run.Given as goal

abbrev pub invariant-loop-i : goal.invariant-loop-i
invariant-loop-i l = Runs sd_name_byte l.s (run sd_name_byte l.s) l.i

abbrev pub decreases-loop-i : goal.decreases-loop-i
decreases-loop-i l = length l.s - l.i
