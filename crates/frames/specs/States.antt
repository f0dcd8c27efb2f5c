-- Where a program stands, and what a turn makes of it.
use Rattle.std.specs.Prelude.{ℕ, ◌+◌, ◌-◌, ◌≤◌, ◌<◌, Bool, true, false, List, ◌≡◌, length, take, drop, if◌then◌else◌}
use Rattle.frames.specs.declared.Options.{Options}
use Rattle.frames.specs.declared.Task.{Task}
use Rattle.frames.specs.declared.Task.TheVariants.{More, Failed}
use Rattle.frames.specs.declared.Outcome.{Outcome}
use Rattle.frames.specs.declared.State.{State}
use Rattle.frames.specs.Tasks.{start_state, goes_on, last_task, Turns}

-- at the start: nothing is read
abbrev pub start_of : Options → State
start_of o = record { task = More; stream = start_state o.counted; next = 0; got = 0; left = 18446744073709551615; ok = true; crlf = o.crlf; counted = o.counted }

abbrev pub with_task : State → Task → State
with_task s t = record { task = t; stream = s.stream; next = s.next; got = s.got; left = s.left; ok = s.ok; crlf = s.crlf; counted = s.counted }

-- with the last task
abbrev pub stopped_of : State → Task → Bool → State
stopped_of s t ok = record { task = t; stream = s.stream; next = s.next; got = s.got; left = 0; ok = ok; crlf = s.crlf; counted = s.counted }

-- a task that does not go on ends the program, which has failed
abbrev pub done_of : State → Task → State
done_of s t = if goes_on t then with_task s t else stopped_of s t false

-- at the beginning of a turn, of which there is one less
abbrev pub begun : State → State
begun s = record { task = More; stream = s.stream; next = s.next; got = s.got; left = s.left - 1; ok = s.ok; crlf = s.crlf; counted = s.counted }

-- behind a call of the splitter
abbrev pub moved : State → Outcome → State
moved s o = record { task = More; stream = o.stream; next = s.next + o.taken; got = s.got; left = s.left; ok = s.ok; crlf = s.crlf; counted = s.counted }

-- with n bytes of another chunk
abbrev pub filled_of : State → ℕ → State
filled_of s n = record { task = More; stream = s.stream; next = 0; got = n; left = s.left; ok = s.ok; crlf = s.crlf; counted = s.counted }

-- a call of the splitter on what is left of a chunk
pub record Goes (s : State) (chunk old : List ℕ) (r : State) (new : List ℕ) : Type 0 where
  pub outcome : Outcome
  pub turns : Turns s.crlf s.counted s.stream (take (s.got - s.next) (drop s.next chunk)) old outcome new
  pub stands : r ≡ done_of (moved s outcome) outcome.task

-- another chunk, of up to `most` bytes; a failure; or the end, with a line buffer of `room` bytes
pub data Refills (s : State) (most room : ℕ) (r : State) : Type 0 where
  another : (n : ℕ) → n ≤ most → r ≡ filled_of s n → Refills s most room r
  fails : r ≡ done_of s Failed → Refills s most room r
  ends : r ≡ done_of (stopped_of s More s.ok) (last_task s.stream room) → Refills s most room r

-- A turn: the rest of the chunk, or where none is left another one.
pub data Advances (s : State) (chunk old : List ℕ) (r : State) (new : List ℕ) : Type 0 where
  goes : s.next < s.got → Goes (begun s) chunk old r new → Advances s chunk old r new
  refills : s.got ≤ s.next → Refills (begun s) (length chunk) (length old) r → new ≡ old → Advances s chunk old r new

-- What a program makes of its state when it has done its task: nothing, or it stops since something has failed.
pub data Keeps (s r : State) : Type 0 where
  same : r ≡ s → Keeps s r
  stops : r ≡ stopped_of s More false → Keeps s r
