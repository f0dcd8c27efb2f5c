-- For private contracts alone: what is left once a line was read.
use Rattle.std.specs.Prelude.{ℕ, ◌≡◌, List, Result}
use Rattle.base.specs.Fills.{filled}
use Rattle.record.specs.Answers.{read_answer_of, strict_read_answer_of}
use Rattle.record.specs.declared.ReadAnswer.{ReadAnswer}
use Rattle.record.specs.declared.Reading.{Reading}
use Rattle.record.specs.declared.StrictReading.{StrictReading}
use Rattle.viable.specs.Viable.{Reports}
use Rattle.exports.specs.Exports.{short_answer, kept, bytes_of, strict_bytes_of, with_reach}
use Rattle.record.specs.declared.Refusal.{Refusal}

-- what is told of a reading, and its bytes at the front of the memory where the number is 0
pub record LeftBy {A : Type 0} (told : A → ReadAnswer) (bytes : A → List ℕ) (r : A) (old : List ℕ) (a : ReadAnswer) (new : List ℕ) : Type 0 where
  pub told_is : a ≡ told r
  pub record_is : new ≡ kept a.number (filled (bytes r) old) old

abbrev pub Left : Result Reading Refusal → List ℕ → ReadAnswer → List ℕ → Type 0
Left = LeftBy read_answer_of bytes_of

-- what is told of a strict reading: with 4, what is reported of the line
pub data StrictTold (line : List ℕ) (r : Result StrictReading Refusal) (a : ReadAnswer) : Type 0 where
  broke : (n : ℕ) → Reports line n → a ≡ with_reach n (strict_read_answer_of r) → StrictTold line r a
  other : ((strict_read_answer_of r).number ≡ 4 → ⊥) → a ≡ strict_read_answer_of r → StrictTold line r a

-- the same where the record's memory is too short
pub record StrictShort (line : List ℕ) (r : Result StrictReading Refusal) (a : ReadAnswer) : Type 0 where
  pub told : ReadAnswer
  pub tells : StrictTold line r told
  pub answer_is : a ≡ short_answer told

pub record StrictLeft (line : List ℕ) (r : Result StrictReading Refusal) (old : List ℕ) (a : ReadAnswer) (new : List ℕ) : Type 0 where
  pub tells : StrictTold line r a
  pub record_is : new ≡ kept a.number (filled (strict_bytes_of r) old) old
