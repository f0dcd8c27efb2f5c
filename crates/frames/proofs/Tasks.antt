-- A turn keeps inside its bytes.
use Prim.Native.Nat.{ℕ, ◌≤◌}
use mathlib.Core.Bool.{Bool}
use mathlib.Core.List.{List}
use lib.ListN.{length}
use Rattle.stream.specs.declared.State as S
use Rattle.stream.proofs.Keeping.{served_inside}
use Rattle.frames.specs.declared.Outcome.{Outcome}
use Rattle.frames.specs.Tasks.{Turns}

pub turn_inside : (crlf counted : Bool) (s : S.State) (bytes old : List ℕ) (r : Outcome) (new : List ℕ) → Turns crlf counted s bytes old r new → r.taken ≤ length bytes
turn_inside crlf counted s bytes old r new t = rw t.answers (served_inside s bytes old t.fed new t.served)
