-- What a call of the splitter answers, and what it leaves in the buffer.
use Rattle.std.specs.Prelude.{ℕ, ◌≤◌, ◌<◌, ◌≡◌, List, [], length, take, leb, if◌then◌else◌}
use Rattle.base.specs.Fills.{filled}
use Rattle.record.specs.Limits.{line_limit}
use Rattle.record.specs.declared.Refusal.TheVariants.{OutputShort, BadCount, FrameTooLong}
use Rattle.stream.specs.declared.State.{State}
use Rattle.stream.specs.declared.Event.{Event}
use Rattle.stream.specs.declared.Event.TheVariants.{More, Frame, Refused}
use Rattle.stream.specs.declared.Fed.{Fed}
use Rattle.stream.specs.Machine.{Says, silent, frame, long, bad, Ran, up_to, unfinished}

-- of n content bytes, those that are held
abbrev pub kept : ℕ → ℕ
kept n = if leb n line_limit then n else line_limit

-- the content that is held lies at the buffer's front
abbrev pub held : State → List ℕ → List ℕ
held s buffer = take (kept (unfinished s)) buffer

-- what a caller is told: nothing, the length of a frame, or a refusal
abbrev pub event_of : Says → Event
event_of silent = More
event_of (frame f) = Frame (length f)
event_of (long f) = Refused FrameTooLong
event_of bad = Refused BadCount

abbrev pub answer_of : Ran → Fed
answer_of r = record { state = r.next; taken = r.taken; event = event_of r.says }

-- what lies at the buffer's front after a call: the frame, the first bytes of a long one, or the content so far; nothing new where a count is bad
abbrev pub shown : Says → List ℕ → List ℕ
shown silent c = c
shown (frame f) c = f
shown (long f) c = f
shown bad c = []

abbrev pub shown_by : Ran → List ℕ
shown_by r = shown r.says r.content

-- the machine from this state on these bytes, up to the first thing that it says; the buffer's bytes past its content are as they were
pub record Feeds (s : State) (bytes old : List ℕ) (r : Fed) (new : List ℕ) : Type 0 where
  pub answers : r ≡ answer_of (up_to s (held s old) bytes)
  pub holds : new ≡ filled (shown_by (up_to s (held s old) bytes)) old

-- A call: a buffer under 8,192 bytes is refused, nothing is taken and nothing changes; else the bytes are fed to the machine.
pub data Served (s : State) (bytes old : List ℕ) (r : Fed) (new : List ℕ) : Type 0 where
  short : length old < line_limit → r ≡ record { state = s; taken = 0; event = Refused OutputShort } → new ≡ old → Served s bytes old r new
  fed : line_limit ≤ length old → Feeds s bytes old r new → Served s bytes old r new
