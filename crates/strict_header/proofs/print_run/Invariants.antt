use Rattle.std.proofs.Common.{◌-◌, length}
use Rattle.base.specs.Runs.{run}
use Rattle.base.proofs.Runs.{Runs}
use Rattle.grammar.specs.Abnf.{print_us_ascii}
use Rattle.strict_header.proofs.print_run.Given as goal

abbrev pub invariant-loop-i : goal.invariant-loop-i
invariant-loop-i l = Runs print_us_ascii l.s (run print_us_ascii l.s) l.i

abbrev pub decreases-loop-i : goal.decreases-loop-i
decreases-loop-i l = length l.s - l.i
