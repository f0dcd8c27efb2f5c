-- Which cell a frame raises. The statements are to be read without their proofs, which are in proofs/Counted.antt.
use Rattle.std.specs.Prelude.{ℕ, suc, ◌≡◌, Bool, true, false, List, [], ◌∷◌, length, if◌then◌else◌, Result, Ok, Err}
use Rattle.record.specs.declared.StrictReading.{StrictReading}
use Rattle.grammar.specs.Reading.{StrictReads}
use Rattle.strict.specs.Scan.{answered}
use Rattle.tally.specs.Tally.{Tally, row_count, empty, row_of, column_of, addition, after, row_sum, sum_of}
use Rattle.tallier.specs.declared.Tallied.{Tallied}
use Rattle.tallier.specs.declared.Tallied.TheVariants as tallied
use Rattle.record.specs.declared.Refusal.{Refusal}

-- ---- one frame

abbrev pub told_of : Result (Unit {0}) Refusal → Tallied
told_of (Ok tt) = tallied.Added
told_of (Err f) = tallied.Refused f

-- A line that is read is added by its own facility and severity, as they stand; a refused one is passed over.
abbrev pub answer_to : Tally → Result StrictReading Refusal → Tallied
answer_to t (Ok x) = told_of (addition t (row_of x.reading.common.facility) (column_of x.reading.common.severity))
answer_to t (Err f) = tallied.Passed

abbrev pub tally_after : Tally → Result StrictReading Refusal → Tally
tally_after t (Ok x) = after (addition t (row_of x.reading.common.facility) (column_of x.reading.common.severity)) t (row_of x.reading.common.facility) (column_of x.reading.common.severity)
tally_after t (Err f) = t

-- what the strict reader answers to a frame, with tables of 64 and 256 entries
abbrev pub reading_of : List ℕ → Result StrictReading Refusal
reading_of frame = answered frame 64 256

pub record TalliesReading (old : Tally) (r : Result StrictReading Refusal) (a : Tallied) (new : Tally) : Type 0 where
  pub told : a ≡ answer_to old r
  pub leaves : new ≡ tally_after old r

-- A frame.
pub record Tallies (old : Tally) (frame : List ℕ) (a : Tallied) (new : Tally) : Type 0 where
  pub tallies : TalliesReading old (reading_of frame) a new

-- It is read as the listing reads it: that is what a reading into tables of those sizes answers.
pub record ReadInto (frame : List ℕ) (e₀ p₀ : List (List ℕ)) : Type 0 where
  pub elements : List (List ℕ)
  pub params : List (List ℕ)
  pub reads : StrictReads frame e₀ p₀ (reading_of frame) elements params

abbrev pub ReadAsListed : Type 0
ReadAsListed = (frame : List ℕ) (e₀ p₀ : List (List ℕ)) → length e₀ ≡ 64 → length p₀ ≡ 256 → ReadInto frame e₀ p₀

-- ---- frames one behind the other

-- whether the listing writes `accept`
abbrev pub is_accepted : Result StrictReading Refusal → Bool
is_accepted (Ok x) = true
is_accepted (Err f) = false

-- how many of them it accepts
unfoldable pub accept_count : List (List ℕ) → ℕ
accept_count [] = 0
accept_count (f ∷ fs) = if is_accepted (reading_of f) then suc (accept_count fs) else accept_count fs

abbrev pub is_refused : Tallied → Bool
is_refused tallied.Added = false
is_refused tallied.Passed = false
is_refused (tallied.Refused f) = true

-- from the empty tally, the last frame first; at a record that the tally refuses the program ends
pub data After : List (List ℕ) → Tally → Type 0 where
  start : After [] empty
  next : {frames : List (List ℕ)} {frame : List ℕ} {old new : Tally} {a : Tallied} → After frames old → Tallies old frame a new → is_refused a ≡ false → After (frame ∷ frames) new

-- The sum over all cells is the number of frames that the listing accepts.
abbrev pub SumIsAccepted : Type 0
SumIsAccepted = (frames : List (List ℕ)) (t : Tally) → After frames t → sum_of row_count (row_sum t) ≡ accept_count frames

-- A tally that frames made.
pub record Made (t : Tally) : Type 0 where
  pub frames : List (List ℕ)
  pub by_frames : After frames t

-- a run changes a tally by frames alone
pub record Onward (old new : Tally) : Type 0 where
  pub made : Made old → Made new
