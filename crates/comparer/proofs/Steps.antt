-- Two lines, one behind the other: a turn stays within its buffers and its chunk, with a turn less.
use Rattle.std.specs.Prelude.{IfSome}
use Prim.Native.Nat.{ℕ, ◌≤◌}
use mathlib.Core.Path.{◌≡◌}
use mathlib.Core.List.{List}
use native.Mathlib.Omega.{arith}
use lib.ListN.{length, drop, length-take, length-drop}
use Rattle.base.specs.Texts.{text_at}
use Rattle.frames.specs.declared.Task.{Task}
use Rattle.frames.specs.declared.Task.TheVariants.{More, Read, Refuse, End, Cut, Failed}
use Rattle.frames.specs.Tasks.{to_read}
use Rattle.comparer.specs.Turns.{line_of}

-- a line is within its buffer
pub line_in : (t : Task) (room : ℕ) → to_read t ≤ room → IfSome (line_of t room) (λ n. n ≤ room)
line_in More room l = tt
line_in (Read n) room l = l
line_in (Refuse n) room l = omega arith
line_in (End n) room l = tt
line_in (Cut n) room l = tt
line_in Failed room l = tt

pub text_short : (line s : List ℕ) (start len : ℕ) → s ≡ text_at line start len → length line ≤ 8193 → length s ≤ 8193
text_short line s start len e l = rw e (omega (arith, length-take len (drop start line), length-drop start line))
