-- What is to be done with what the splitter tells, and at the end of the input.
use Rattle.std.specs.Prelude.{ℕ, ◌-◌, Bool, true, false, ◌&&◌, List, ◌≡◌, eqb, leb, length, take, get_or, if◌then◌else◌}
use Rattle.record.specs.Limits.{line_limit}
use Rattle.record.specs.Refusals.{refusal_number}
use Rattle.record.specs.declared.Refusal.{Refusal}
use Rattle.stream.specs.declared.State as S
use Rattle.stream.specs.declared.State.TheVariants.{Count, Content, Line, Ended}
use Rattle.stream.specs.declared.Event.{Event}
use Rattle.stream.specs.declared.Event.TheVariants as event
use Rattle.stream.specs.declared.Fed.{Fed}
use Rattle.stream.specs.Feeds.{Served}
use Rattle.frames.specs.declared.Task.{Task}
use Rattle.frames.specs.declared.Task.TheVariants.{More, Read, Refuse, End, Cut, Failed}
use Rattle.frames.specs.declared.Outcome.{Outcome}

-- where the stream stands at its start
abbrev pub start_state : Bool → S.State
start_state counted = if counted then Count 0 else Line 0

-- how many bytes of a frame are read: where lines end at CR LF, all but one CR at its end
abbrev pub kept_len : Bool → List ℕ → ℕ
kept_len crlf s = if crlf && eqb (get_or s (length s - 1) 0) 13 then length s - 1 else length s

-- A frame that is too long is refused, with 1 where it is a line; every other refusal of the splitter ends the program.
abbrev pub refused_task : Bool → Refusal → Task
refused_task counted f =
    if eqb (refusal_number f) 12 then (if counted then Refuse 12 else Refuse 1)
    else End (refusal_number f)

-- what is to be done after a call of the splitter, which left `buffer`
abbrev pub task_of : Bool → Bool → List ℕ → Event → Task
task_of crlf counted buffer event.More = More
task_of crlf counted buffer (event.Frame n) = Read (kept_len crlf (take n buffer))
task_of crlf counted buffer (event.Refused f) = refused_task counted f

-- A last line without LF counts if it is not empty. One that is too long is refused; so is one that is longer than the buffer, which held none of it.
abbrev pub last_line : ℕ → ℕ → Task
last_line n room =
    if eqb n 0 then More
    else if leb n line_limit && leb n room then Read n
    else Refuse 1

-- a count without its frame: no byte of the content came
abbrev pub last_count : ℕ → Task
last_count v = if eqb v 0 then More else Cut 0

-- what is to be done at the end of the input, with a buffer of `room` bytes; a bad count was told before
abbrev pub last_task : S.State → ℕ → Task
last_task (Count v) room = last_count v
last_task (Content left n) room = Cut n
last_task (Line n) room = last_line n room
last_task Ended room = More

-- how many bytes at the buffer's front are a frame that is to be read
abbrev pub to_read : Task → ℕ
to_read More = 0
to_read (Read n) = n
to_read (Refuse n) = 0
to_read (End n) = 0
to_read (Cut n) = 0
to_read Failed = 0

-- whether there is one
abbrev pub is_read : Task → Bool
is_read More = false
is_read (Read n) = true
is_read (Refuse n) = false
is_read (End n) = false
is_read (Cut n) = false
is_read Failed = false

-- whether the program goes on behind it
abbrev pub goes_on : Task → Bool
goes_on More = true
goes_on (Read n) = true
goes_on (Refuse n) = true
goes_on (End n) = false
goes_on (Cut n) = false
goes_on Failed = false

abbrev pub turn_of : S.State → ℕ → Task → Outcome
turn_of s taken t = record { stream = s; taken = taken; task = t }

-- a turn: a call of the splitter, and what is to be done after it
pub record Turns (crlf counted : Bool) (s : S.State) (bytes old : List ℕ) (r : Outcome) (new : List ℕ) : Type 0 where
  pub fed : Fed
  pub served : Served s bytes old fed new
  pub answers : r ≡ turn_of fed.state fed.taken (task_of crlf counted new fed.event)
