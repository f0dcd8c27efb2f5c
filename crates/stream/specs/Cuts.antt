-- However a stream is cut: the statements, to be read without their proofs, which are in proofs/Cutting.antt.
use Rattle.std.specs.Prelude.{ℕ, ◌≤◌, ◌<◌, ◌≡◌, List, [], ◌∷◌, ◌++◌, eqb, length, take, drop, if◌then◌else◌, Ok}
use Rattle.record.specs.Limits.{line_limit}
use Rattle.record.specs.Refusals.{refusal_number}
use Rattle.stream.specs.declared.State.{State}
use Rattle.stream.specs.declared.Event.{Event}
use Rattle.stream.specs.declared.Event.TheVariants.{More, Frame, Refused}
use Rattle.stream.specs.declared.Fed.{Fed}
use Rattle.stream.specs.Machine.{Says, frame, long, bad, start_of, Whole, whole}
use Rattle.stream.specs.declared.StreamState.{StreamState}
use Rattle.stream.specs.declared.FeedAnswer.{FeedAnswer}
use Rattle.stream.specs.Feeds.{held, Served}
use Rattle.stream.specs.Numbers.{numbers_of, Splits}

-- what a caller sees of a stream in a call: what it is told, and what then lies at the buffer's front; a call that took nothing shows nothing
abbrev pub refusal_seen : ℕ → List ℕ → List Says
refusal_seen n buffer =
    if eqb n 12 then long (take line_limit buffer) ∷ []
    else if eqb n 11 then bad ∷ []
    else []

abbrev pub seen : Event → List ℕ → List Says
seen More buffer = []
seen (Frame n) buffer = frame (take n buffer) ∷ []
seen (Refused f) buffer = refusal_seen (refusal_number f) buffer

-- Calls on the pieces of a stream, in order, from a state and with a buffer: what is seen, and the state and the buffer at the end. Each call is on what is
-- left of the first piece; it may be an empty one, or one that is used up. `Call` is the contract of a call, whose answer has a state, the number of bytes
-- taken, and what is seen.
pub data Calls {S A : Type 0} (Call : S → List ℕ → List ℕ → A → List ℕ → Type 0) (state : A → S) (taken : A → ℕ) (sees : A → List ℕ → List Says)
    : S → List ℕ → List (List ℕ) → List Says → S → List ℕ → Type 0 where
  none : {s : S} {buffer : List ℕ} → Calls Call state taken sees s buffer [] [] s buffer
  next : {s t : S} {buffer last : List ℕ} {pieces : List (List ℕ)} {es : List Says}
      → Calls Call state taken sees s buffer pieces es t last → Calls Call state taken sees s buffer ([] ∷ pieces) es t last
  call : {s t : S} {buffer after last piece : List ℕ} {pieces : List (List ℕ)} {es : List Says} {r : A}
      → Call s piece buffer r after
      → Calls Call state taken sees (state r) after (drop (taken r) piece ∷ pieces) es t last
      → Calls Call state taken sees s buffer (piece ∷ pieces) (sees r after ++ es) t last

abbrev pub FeedCalls : State → List ℕ → List (List ℕ) → List Says → State → List ℕ → Type 0
FeedCalls = Calls Served (λ r. r.state) (λ r. r.taken) (λ r. seen r.event)

-- the stream that was cut
abbrev pub joined : List (List ℕ) → List ℕ
joined [] = []
joined (p ∷ ps) = p ++ joined ps

-- what was seen, the state at the end, and the content in the buffer's front
abbrev pub ends : List Says → State → List ℕ → Whole
ends es t last = record { heard = es; next = t; content = held t last }

-- However a stream is cut, what is seen of it, the state at its end and the content that is then held are those of the machine on the whole stream.
abbrev pub CutAnyhow : Type 0
CutAnyhow = (kind : ℕ) (s t : State) (buffer last : List ℕ) (pieces : List (List ℕ)) (es : List Says)
    → start_of kind ≡ Ok s → FeedCalls s buffer pieces es t last → whole s [] (joined pieces) ≡ ends es t last

-- The same from any state on, with the content that the buffer holds.
abbrev pub CutFromAnywhere : Type 0
CutFromAnywhere = (s t : State) (buffer last : List ℕ) (pieces : List (List ℕ)) (es : List Says)
    → FeedCalls s buffer pieces es t last → whole s (held s buffer) (joined pieces) ≡ ends es t last

-- On every list of pieces there are such calls, and they come to an end,
pub record Called (s : State) (buffer : List ℕ) (pieces : List (List ℕ)) : Type 0 where
  pub sees : List Says
  pub at : State
  pub last : List ℕ
  pub calls : FeedCalls s buffer pieces sees at last

abbrev pub CallsEnd : Type 0
CallsEnd = (pieces : List (List ℕ)) (s : State) (buffer : List ℕ) → line_limit ≤ length buffer → Called s buffer pieces

-- since a call on one byte or more takes one or more.
abbrev pub TakesSome : Type 0
TakesSome = (s : State) (bytes old : List ℕ) (r : Fed) (new : List ℕ) → line_limit ≤ length old → 0 < length bytes → Served s bytes old r new → 0 < r.taken

-- Any two results that the contract of a call allows are equal.
abbrev pub OneResult : Type 0
OneResult = (s : State) (bytes old : List ℕ) (r r' : Fed) (new new' : List ℕ) → Served s bytes old r new → Served s bytes old r' new' → (r ≡ r') × (new ≡ new')

-- ---- the same of calls in numbers

abbrev pub numbers_seen : FeedAnswer → List ℕ → List Says
numbers_seen a buffer = if eqb a.frame 1 then frame (take a.len buffer) ∷ [] else refusal_seen a.number buffer

abbrev pub NumberCalls : StreamState → List ℕ → List (List ℕ) → List Says → StreamState → List ℕ → Type 0
NumberCalls = Calls Splits (λ a. a.state) (λ a. a.taken) numbers_seen

-- what the machine says from s on, and the state at the end in numbers
pub record InNumbers (s : State) (pieces : List (List ℕ)) (es : List Says) (y : StreamState) (last : List ℕ) : Type 0 where
  pub at : State
  pub numbers : y ≡ numbers_of at
  pub same : whole s [] (joined pieces) ≡ ends es at last

abbrev pub CutInNumbers : Type 0
CutInNumbers = (kind : ℕ) (s : State) (y : StreamState) (buffer last : List ℕ) (pieces : List (List ℕ)) (es : List Says)
    → start_of kind ≡ Ok s → NumberCalls (numbers_of s) buffer pieces es y last → InNumbers s pieces es y last
