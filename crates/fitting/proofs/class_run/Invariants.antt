use Rattle.base.specs.Runs.{run}
use Rattle.base.proofs.Runs.{Runs}
use Rattle.fitting.specs.Heads.{byte_of}
use Rattle.fitting.proofs.class_run.Given as goal

abbrev pub invariant-loop-i : goal.invariant-loop-i
invariant-loop-i l = Runs (byte_of l.name) l.s (run (byte_of l.name) l.s) l.i
