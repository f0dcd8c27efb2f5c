-- Two lines, one behind the other: what a turn makes of where the program stands.
use Rattle.std.specs.Prelude.{ℕ, ◌≤◌, ◌≡◌, Option, Some, None, IfSome}
use Rattle.frames.specs.declared.State.{State}
use Rattle.frames.specs.declared.Task.{Task}
use Rattle.frames.specs.declared.Task.TheVariants.{More, Read, Refuse, End, Cut, Failed}
use Rattle.frames.specs.States.{Keeps}
use Rattle.comparer.specs.declared.Turn.{Turn}

-- How many bytes of a buffer of `room` bytes are the line, where one has ended: one that is read, or one that is too long. That is all of them: the buffer has a byte more than a line may have, so that the comparison refuses it with 1, whatever it holds.
abbrev pub line_of : Task → ℕ → Option ℕ
line_of More room = None
line_of (Read n) room = Some n
line_of (Refuse n) room = Some room
line_of (End n) room = None
line_of (Cut n) room = None
line_of Failed room = None

-- Behind a turn that sought the first line of a pair, and behind one that sought the second.
abbrev pub with_first : State → ℕ → Turn
with_first s room = record { state = s; first = line_of s.task room; second = None }

abbrev pub with_second : ℕ → State → ℕ → Turn
with_second first s room = record { state = s; first = Some first; second = line_of s.task room }

-- The first line is sought until it is there. `room₁` and `room₂` are the lengths of the buffers.
abbrev pub sought : Option ℕ → State → ℕ → ℕ → Turn
sought None s room₁ room₂ = with_first s room₁
sought (Some first) s room₁ room₂ = with_second first s room₂

-- ---- for private contracts alone

-- within both line buffers and the chunk
pub record Within (room₁ room₂ most : ℕ) (t : Turn) : Type 0 where
  pub first_in : IfSome t.first (λ n. n ≤ room₁)
  pub second_in : IfSome t.second (λ n. n ≤ room₂)
  pub got_in : t.state.got ≤ most

-- behind a pair: the first line of the next is sought, or the program stops
pub record Onward (t r : Turn) : Type 0 where
  pub keeps : Keeps t.state r.state
  pub no_first : r.first ≡ None
  pub no_second : r.second ≡ None
