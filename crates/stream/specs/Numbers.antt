-- States and answers in numbers, as a C caller has them.
use Rattle.std.specs.Prelude.{ℕ, ◌≤◌, ◌<◌, ◌≡◌, true, ◌||◌, List, eqb, length, drop, if◌then◌else◌, Result, Ok, Err}
use Rattle.record.specs.Limits.{line_limit}
use Rattle.record.specs.Refusals.{refusal_number}
use Rattle.record.specs.declared.Refusal.TheVariants.{BadSetting, OutputShort}
use Rattle.stream.specs.declared.State.{State}
use Rattle.stream.specs.declared.State.TheVariants.{Count, Content, Line, Ended}
use Rattle.stream.specs.declared.Event.{Event}
use Rattle.stream.specs.declared.Event.TheVariants.{More, Frame, Refused}
use Rattle.stream.specs.declared.Fed.{Fed}
use Rattle.stream.specs.declared.StreamState.{StreamState}
use Rattle.stream.specs.declared.StartAnswer.{StartAnswer}
use Rattle.stream.specs.declared.FeedAnswer.{FeedAnswer}
use Rattle.stream.specs.declared.FinishAnswer.{FinishAnswer}
use Rattle.stream.specs.Machine.{unfinished}
use Rattle.stream.specs.Feeds.{Feeds}
use Rattle.record.specs.declared.Refusal.{Refusal}

-- ---- a state

-- stage 1 is a count, 2 content, 3 a line, 4 the end after a bad count; `left` is a count's value too, `came` the content bytes that came
abbrev pub numbers_of : State → StreamState
numbers_of (Count v) = record { stage = 1; left = v; came = 0 }
numbers_of (Content left n) = record { stage = 2; left = left; came = n }
numbers_of (Line n) = record { stage = 3; left = 0; came = n }
numbers_of Ended = record { stage = 4; left = 0; came = 0 }

-- Any other stage, 0 too, is of no kind of stream. What a stage does not use is of no account.
abbrev pub state_of : StreamState → Result State Refusal
state_of x =
    if eqb x.stage 1 then Ok (Count x.left)
    else if eqb x.stage 2 then Ok (Content x.left x.came)
    else if eqb x.stage 3 then Ok (Line x.came)
    else if eqb x.stage 4 then Ok Ended
    else Err BadSetting

-- ---- the start

-- the number is 0 or that of the refusal, which has a state of zeros
abbrev pub start_answer_of : Result State Refusal → StartAnswer
start_answer_of (Ok s) = record { number = 0; state = numbers_of s }
start_answer_of (Err f) = record { number = refusal_number f; state = record { stage = 0; left = 0; came = 0 } }

-- ---- bytes

-- `frame` is 1 where a frame is complete, and `len` its length; else both are 0
abbrev pub feed_answer : ℕ → StreamState → Event → FeedAnswer
feed_answer taken x More = record { number = 0; frame = 0; taken = taken; len = 0; state = x }
feed_answer taken x (Frame n) = record { number = 0; frame = 1; taken = taken; len = n; state = x }
feed_answer taken x (Refused f) = record { number = refusal_number f; frame = 0; taken = taken; len = 0; state = x }

abbrev pub feed_answer_of : Fed → FeedAnswer
feed_answer_of r = feed_answer r.taken (numbers_of r.state) r.event

-- A call on numbers. A stage that is none is refused first, then a buffer under 8,192 bytes: nothing is taken, and state and buffer are as they were. Else
-- the bytes are fed to the machine.
pub data Splits (x : StreamState) (bytes old : List ℕ) (a : FeedAnswer) (new : List ℕ) : Type 0 where
  no_state : state_of x ≡ Err BadSetting → a ≡ feed_answer 0 x (Refused BadSetting) → new ≡ old → Splits x bytes old a new
  short : (s : State) → state_of x ≡ Ok s → length old < line_limit → a ≡ feed_answer 0 x (Refused OutputShort) → new ≡ old → Splits x bytes old a new
  splits : (s : State) → state_of x ≡ Ok s → line_limit ≤ length old → (r : Fed) → Feeds s bytes old r new → a ≡ feed_answer_of r → Splits x bytes old a new

-- any two results that it allows are equal
abbrev pub OneAnswer : Type 0
OneAnswer = (x : StreamState) (bytes old : List ℕ) (a a' : FeedAnswer) (new new' : List ℕ) → Splits x bytes old a new → Splits x bytes old a' new'
    → (a ≡ a') × (new ≡ new')

-- What every call keeps to. No other number is answered; no more bytes are taken than there are; a frame has at most 8,192 bytes, and the buffer's bytes past
-- these are as they were. 2 and 8 take nothing and change nothing. 11 does not change the buffer, and then the stream has ended.
pub record FeedCall (x : StreamState) (bytes old : List ℕ) (a : FeedAnswer) (new : List ℕ) : Type 0 where
  pub number_is : (eqb a.number 0 || eqb a.number 2 || eqb a.number 8 || eqb a.number 11 || eqb a.number 12) ≡ true
  pub inside : a.taken ≤ length bytes
  pub fits : a.len ≤ line_limit
  pub rest : drop line_limit new ≡ drop line_limit old
  pub early : (eqb a.number 2 || eqb a.number 8) ≡ true → (a.taken ≡ 0) × (a.state ≡ x) × (new ≡ old)
  pub bad_count : a.number ≡ 11 → (a.state ≡ numbers_of Ended) × (new ≡ old)

abbrev pub FeedCalled : Type 0
FeedCalled = (x : StreamState) (bytes old : List ℕ) (a : FeedAnswer) (new : List ℕ) → Splits x bytes old a new → FeedCall x bytes old a new

-- Where a stream has ended, every further byte gives 11 and changes nothing.
abbrev pub StaysEnded : Type 0
StaysEnded = (bytes old : List ℕ) (a : FeedAnswer) (new : List ℕ) → line_limit ≤ length old → 0 < length bytes → Splits (numbers_of Ended) bytes old a new
    → (a ≡ record { number = 11; frame = 0; taken = 1; len = 0; state = numbers_of Ended }) × (new ≡ old)

-- ---- the end

abbrev pub finish_answer_of : Result State Refusal → FinishAnswer
finish_answer_of (Ok s) = record { number = 0; unfinished = unfinished s }
finish_answer_of (Err f) = record { number = refusal_number f; unfinished = 0 }
