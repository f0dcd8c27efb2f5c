-- How a program ends.
use Rattle.std.specs.Prelude.{ℕ, Bool, true, false}
use Rattle.program.specs.declared.Status.{Status}
use Rattle.program.specs.declared.Status.TheVariants.{Done, Failed, Misused}

-- the exit status
abbrev pub status_number : Status → ℕ
status_number Done = 0
status_number Failed = 1
status_number Misused = 2

-- All is done where nothing has failed and nothing that was written is lost.
abbrev pub ended : (ok lost : Bool) → Status
ended true false = Done
ended true true = Failed
ended false lost = Failed
