-- The machine that takes a stream a byte at a time: what it holds, what it says, and where it then stands.
use Rattle.std.specs.Prelude.{ℕ, suc, ◌+◌, ◌-◌, ◌*◌, Bool, ◌&&◌, not, List, [], ◌∷◌, ◌++◌, eqb, leb, ltb, length, if◌then◌else◌, Result, Ok, Err}
use Rattle.base.specs.Choose.{within}
use Rattle.record.specs.Limits.{line_limit}
use Rattle.record.specs.declared.Refusal.TheVariants.{BadSetting}
use Rattle.stream.specs.declared.State.{State}
use Rattle.stream.specs.declared.State.TheVariants.{Count, Content, Line, Ended}
use Rattle.record.specs.declared.Refusal.{Refusal}

-- ---- where it stands

-- Count v: before the content of a counted frame; the digits that have come write v, which is 0 where none has.
-- Content left n: in a counted frame; `left` of its bytes are to come, and n have come.
-- Line n: in a line, of which n bytes have come.
-- Ended: after a bad count.
-- Every value is a state. The digits of a count need not be counted, since none leads with 0: from 100,000 on there are six. A `left` of 0, which the
-- machine never makes, is as 1.

-- the state at the start of a stream, and at its restart: kind 0 is counted, 1 lines
unfoldable pub start_of : ℕ → Result State Refusal
start_of kind =
    if eqb kind 0 then Ok (Count 0)
    else if eqb kind 1 then Ok (Line 0)
    else Err BadSetting

-- the content bytes of an unfinished frame, passed over or not
abbrev pub unfinished : State → ℕ
unfinished (Count v) = 0
unfinished (Content left n) = n
unfinished (Line n) = n
unfinished Ended = 0

-- ---- what it says of a byte

-- nothing; a frame is complete: its bytes; a frame of over 8,192 bytes has ended: the first 8,192 of them (refusal 12); a bad count (refusal 11)
pub data Says : Type 0 where
  silent : Says
  frame : List ℕ → Says
  long : List ℕ → Says
  bad : Says

-- ---- a byte

-- where it stands behind a byte, the content that it then holds, and what it said
pub record Step : Type 0 where
  pub next : State
  pub content : List ℕ
  pub says : Says

abbrev pub goes : State → List ℕ → Says → Step
goes s c e = record { next = s; content = c; says = e }

-- one content byte more: how many there are, 4,294,967,295 where there are more
unfoldable pub more : ℕ → ℕ
more n = if ltb n 4294967295 then suc n else n

-- and which are held: the first 8,192
unfoldable pub keep : List ℕ → ℕ → List ℕ
keep c b = if ltb (length c) line_limit then c ++ b ∷ [] else c

-- the end of a frame of n content bytes, of which c is held
unfoldable pub ending : ℕ → List ℕ → Says
ending n c = if leb n line_limit then frame c else long c

-- a digit that goes on with a count: the first is 1 to 9, and there is no seventh
abbrev pub digit_on : ℕ → ℕ → Bool
digit_on v b = within 48 57 b && ltb v 100000 && not (eqb v 0 && eqb b 48)

-- the space that ends a count of one digit or more
abbrev pub space_on : ℕ → ℕ → Bool
space_on v b = eqb b 32 && not (eqb v 0)

-- A byte b, in a state and with the content c held. LF, which is 10, ends a line and is not of the frame.
unfoldable pub step : State → List ℕ → ℕ → Step
step (Count v) c b =
    if digit_on v b then goes (Count (v * 10 + (b - 48))) [] silent
    else if space_on v b then goes (Content v 0) [] silent
    else goes Ended [] bad
step (Content left n) c b =
    if leb left 1 then goes (Count 0) [] (ending (more n) (keep c b))
    else goes (Content (left - 1) (more n)) (keep c b) silent
step (Line n) c b =
    if eqb b 10 then goes (Line 0) [] (ending n c)
    else goes (Line (more n)) (keep c b) silent
step Ended c b = goes Ended [] bad

-- ---- a whole stream

-- all that the machine says, where it then stands, and the content that it holds
pub record Whole : Type 0 where
  pub heard : List Says
  pub next : State
  pub content : List ℕ

abbrev pub told : Says → List Says
told silent = []
told (frame f) = frame f ∷ []
told (long f) = long f ∷ []
told bad = bad ∷ []

abbrev pub hears : Says → Whole → Whole
hears e w = record { heard = told e ++ w.heard; next = w.next; content = w.content }

unfoldable pub whole : State → List ℕ → List ℕ → Whole
whole s c [] = record { heard = []; next = s; content = c }
whole s c (b ∷ bs) = let t = step s c b in hears t.says (whole t.next t.content bs)

-- ---- up to the first thing that it says

-- where it then stands, the content that it holds, how many bytes it took, and what it said
pub record Ran : Type 0 where
  pub next : State
  pub content : List ℕ
  pub taken : ℕ
  pub says : Says

abbrev pub stops : State → List ℕ → ℕ → Says → Ran
stops s c k e = record { next = s; content = c; taken = k; says = e }

-- the same with k bytes before it
abbrev pub later : ℕ → Ran → Ran
later k r = stops r.next r.content (k + r.taken) r.says

-- after a byte that it is silent of the machine goes on, as `r` says
abbrev pub onward : Says → Step → Ran → Ran
onward silent t r = later 1 r
onward (frame f) t r = stops t.next t.content 1 (frame f)
onward (long f) t r = stops t.next t.content 1 (long f)
onward bad t r = stops t.next t.content 1 bad

unfoldable pub up_to : State → List ℕ → List ℕ → Ran
up_to s c [] = stops s c 0 silent
up_to s c (b ∷ bs) = let t = step s c b in onward t.says t (up_to t.next t.content bs)
