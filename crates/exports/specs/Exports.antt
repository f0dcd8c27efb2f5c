-- The functions of include/khamdoriem.h: what each answers, and what it leaves in what it was lent. Those of a stream are in crates/stream/specs/Numbers.antt.
use Rattle.std.specs.Prelude.{ℕ, ◌≡◌, true, false, List, eqb, ltb, ℤ, length, if◌then◌else◌, Result, Err}
use Rattle.base.specs.Fills.{filled}
use Rattle.record.specs.Limits.{line_limit}
use Rattle.record.specs.Answers.{answer_of, strict_answer_of, read_answer_of, strict_read_answer_of, output_answer_of}
use Rattle.record.specs.declared.Record.{Record}
use Rattle.record.specs.declared.Reading.{Reading}
use Rattle.record.specs.declared.StrictReading.{StrictReading}
use Rattle.record.specs.declared.Refusal.{Refusal}
use Rattle.record.specs.declared.Refusal.TheVariants.{LineTooLong, BadSetting, Unsuitable}
use Rattle.record.specs.declared.OutputAnswer.{OutputAnswer}
use Rattle.record.specs.declared.ReadAnswer.{ReadAnswer}
use Rattle.layout.specs.Layout.{record_size, strict_size, record_bytes, strict_bytes}
use Rattle.layout.specs.Incoming.{holds_record, record_at, element_count_at, param_count_at}
use Rattle.grammar.specs.Reading.{StrictReads}
use Rattle.viable.specs.Viable.{Reports}
use Rattle.loose.specs.Loose.{Reads}
use Rattle.message.specs.Prints.{Prints}
use Rattle.lookup.specs.Lookup.{Looks}

-- ---- the interface's number

-- It rises where a host that was built with an older header would misread an answer or a layout. 1 had no number in the archive, and a record without the
-- digits of a fraction.
abbrev pub interface_number : ℕ
interface_number = 2

-- ---- the readers

-- 8, last of all, where the record's memory is too short
abbrev pub short_answer : ReadAnswer → ReadAnswer
short_answer a = if eqb a.number 0 then record { number = 8; whole = 0; reach = 0 } else a

-- what is answered, where `room` bytes are lent for a record of `size` bytes
abbrev pub left_answer : ReadAnswer → ℕ → ℕ → ReadAnswer
left_answer a size room = if ltb room size then short_answer a else a

-- a call that answers a number other than 0 has changed nothing that it was lent
abbrev pub kept : {A : Type 0} → ℕ → A → A → A
kept n new old = if eqb n 0 then new else old

-- A call of a reader: it has an answer, and the tables as the reading leaves them, by `ReadsTo`. The caller is told the answer, and has its bytes.
pub record Leaves {A : Type 0} (told : A → ReadAnswer) (bytes : A → List ℕ) (size : ℕ) (ReadsTo : A → List (List ℕ) → List (List ℕ) → Type 0)
    (e₀ p₀ : List (List ℕ)) (out₀ : List ℕ) (a : ReadAnswer) (e₁ p₁ : List (List ℕ)) (out₁ : List ℕ) : Type 0 where
  pub answer : A
  pub elements : List (List ℕ)
  pub params : List (List ℕ)
  pub reads : ReadsTo answer elements params
  pub told_is : a ≡ left_answer (told answer) size (length out₀)
  pub elements_are : e₁ ≡ kept a.number elements e₀
  pub params_are : p₁ ≡ kept a.number params p₀
  pub record_is : out₁ ≡ kept a.number (filled (bytes answer) out₀) out₀

-- the bytes of the record and the counts
abbrev pub bytes_of : Result Reading Refusal → List ℕ
bytes_of r = let a = answer_of r in record_bytes a.reading a.elements a.params

abbrev pub strict_bytes_of : Result StrictReading Refusal → List ℕ
strict_bytes_of r = let a = strict_answer_of r in strict_bytes a.reading a.elements a.params

abbrev pub LeavesLoose : List ℕ → ℕ → ℕ → ℤ → List (List ℕ) → List (List ℕ) → List ℕ → ReadAnswer → List (List ℕ) → List (List ℕ) → List ℕ → Type 0
LeavesLoose line variant year offset e₀ p₀ = Leaves read_answer_of bytes_of record_size (Reads line variant year offset e₀ p₀) e₀ p₀

-- an answer with a report beside it
abbrev pub with_reach : ℕ → ReadAnswer → ReadAnswer
with_reach n a = record { number = a.number; whole = a.whole; reach = n }

-- The same of the strict reader, with what is reported of the line: where it broke, for a line with no reading, and else 0.
pub record LeavesStrict (line : List ℕ) (e₀ p₀ : List (List ℕ)) (out₀ : List ℕ) (a : ReadAnswer) (e₁ p₁ : List (List ℕ)) (out₁ : List ℕ) : Type 0 where
  pub reach : ℕ
  pub reports : Reports line reach
  pub leaves : Leaves (λ (r : Result StrictReading Refusal). with_reach reach (strict_read_answer_of r)) strict_bytes_of strict_size (StrictReads line e₀ p₀) e₀ p₀ out₀ a e₁ p₁ out₁

-- ---- printing and lookup

-- A call over the bytes of a record: where they hold one, the service's answer; where not, refusal `first`, and the output as it was.
pub data Serves (bytes : List ℕ) (first : Refusal) (Service : Record → ℕ → ℕ → Result ℕ Refusal → List ℕ → Type 0) (old : List ℕ) (a : OutputAnswer) (new : List ℕ) : Type 0 where
  held : holds_record bytes ≡ true → (w : Result ℕ Refusal) → Service (record_at bytes) (element_count_at bytes) (param_count_at bytes) w new → a ≡ output_answer_of w
      → Serves bytes first Service old a new
  unheld : holds_record bytes ≡ false → a ≡ output_answer_of (Err first) → new ≡ old → Serves bytes first Service old a new

-- the first of the refusals 1, 2 and 7 that applies to a line of `len` bytes, a kind, and bytes that hold no record
abbrev pub first_refusal : ℕ → ℕ → Refusal
first_refusal len kind = if ltb line_limit len then LineTooLong else if ltb 1 kind then BadSetting else Unsuitable

-- printing has no kind, and is never refused for one
abbrev pub ServesPrint : List ℕ → List ℕ → List (List ℕ) → List (List ℕ) → List ℕ → OutputAnswer → List ℕ → Type 0
ServesPrint line bytes elements params old = Serves bytes (first_refusal (length line) 0) (λ r e p w new. Prints line r e p elements params old w new) old

abbrev pub ServesLookup : List ℕ → List ℕ → List (List ℕ) → List (List ℕ) → List ℕ → List ℕ → ℕ → List ℕ → OutputAnswer → List ℕ → Type 0
ServesLookup line bytes elements params id name kind old = Serves bytes (first_refusal (length line) kind) (λ r e p w new. Looks line r e p elements params id name kind old w new) old
