-- App and process id go by characters. (They end before `[` and `]`.)
use Prim.Native.Nat.{ℕ}
use mathlib.Core.Path.{◌≡◌}
use mathlib.Core.List.{List}
use native.Mathlib.Omega.{arith}
use Rattle.base.specs.Runs.{run}
use Rattle.utf8.specs.Rfc3629.{Characters, octets}
use Rattle.utf8.proofs.ByCharacters.{run_walk, tests_not, tests_or, tests_byte, walk_by_characters}
use Rattle.parsers.specs.Steps.{is_inside}
use Rattle.rfc3164.specs.Names.{is_app}
use Rattle.rfc3164.specs.Characters.{app_of, pid_of}

pub app_by_characters : (cs : List (List ℕ)) → Characters cs → run is_app (octets cs) ≡ app_of cs
app_by_characters = walk_by_characters (run_walk is_app) (tests_not (tests_or (tests_byte 58 (omega arith)) (tests_byte 91 (omega arith))))

pub pid_by_characters : (cs : List (List ℕ)) → Characters cs → run is_inside (octets cs) ≡ pid_of cs
pid_by_characters = walk_by_characters (run_walk is_inside) (tests_not (tests_byte 93 (omega arith)))
