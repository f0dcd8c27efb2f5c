-- What a reader left suits its line, and printing and lookup never refuse it with 7: a statement to be read without its proof, which is in proofs/AfterReading.antt.
use Rattle.std.specs.Prelude.{ℕ, ◌≡◌, List, true, ltb, eqb, length, take, ℤ, if◌then◌else◌, Result, Ok, Err}
use Rattle.record.specs.Answers.{output_answer_of}
use Rattle.record.specs.declared.Record.{Record}
use Rattle.record.specs.declared.Reading.TheVariants as loose
use Rattle.record.specs.declared.StrictRecord.{StrictRecord}
use Rattle.record.specs.declared.Refusal.TheVariants.{BadSetting, OutputShort}
use Rattle.loose.specs.Loose.{Reads}
use Rattle.grammar.specs.Reading.{StrictReads}
use Rattle.suits.specs.Suits.{suits}
use Rattle.lookup.specs.Lookup.{Found, found, value_answer, Looks}
use Rattle.message.specs.Message.{printed}
use Rattle.message.specs.Prints.{Prints}
use Rattle.record.specs.declared.Refusal.{Refusal}

-- the record, the counts and the tables that a reader left, where it was done
pub data Left (line : List ℕ) (r : Record) (e p : ℕ) (elements params : List (List ℕ)) : Type 0 where
  by_loose : {variant year : ℕ} {offset : ℤ} {e₀ p₀ : List (List ℕ)} → Reads line variant year offset e₀ p₀ (Ok (loose.Read r e p)) elements params
      → Left line r e p elements params
  by_whole : {variant year : ℕ} {offset : ℤ} {e₀ p₀ : List (List ℕ)} → Reads line variant year offset e₀ p₀ (Ok (loose.Whole r)) elements params → e ≡ 0 → p ≡ 0
      → Left line r e p elements params
  by_strict : {s : StrictRecord} {e₀ p₀ : List (List ℕ)} → StrictReads line e₀ p₀ (Ok (record { reading = s; elements = e; params = p })) elements params → r ≡ s.common
      → Left line r e p elements params

-- what printing answers where neither 1 nor 7 applies: 8, or the length of the text
abbrev pub print_answer : List ℕ → ℕ → Result ℕ Refusal
print_answer text out = if ltb out (length text) then Err OutputShort else Ok (length text)

-- and lookup: 2, 9 or 8, or the length of the value
abbrev pub lookup_answer : ℕ → Found → ℕ → Result ℕ Refusal
lookup_answer kind f out = if ltb 1 kind then Err BadSetting else value_answer (eqb kind 0) f out

-- of a record, counts and tables
pub record Served (line : List ℕ) (r : Record) (e p : ℕ) (elements params : List (List ℕ)) : Type 0 where
  -- They suit the line.
  pub suited : suits line r e p elements params ≡ true
  -- Printing and lookup answer as above,
  pub print_answers : {before after : List ℕ} {w : (Result ℕ Refusal)} → Prints line r e p elements params before w after
      → w ≡ print_answer (printed line r (take e elements) (take p params)) (length before)
  pub lookup_answers : {id name : List ℕ} {kind : ℕ} {before after : List ℕ} {w : (Result ℕ Refusal)} → Looks line r e p elements params id name kind before w after
      → w ≡ lookup_answer kind (found line elements id name (take p params)) (length before)
  -- and neither answers 7.
  pub print_not_7 : {before after : List ℕ} {w : (Result ℕ Refusal)} → Prints line r e p elements params before w after → (output_answer_of w).number ≡ 7 → ⊥
  pub lookup_not_7 : {id name : List ℕ} {kind : ℕ} {before after : List ℕ} {w : (Result ℕ Refusal)} → Looks line r e p elements params id name kind before w after
      → (output_answer_of w).number ≡ 7 → ⊥

-- What a reader left is served.
abbrev pub LeftIsServed : Type 0
LeftIsServed =
    (line : List ℕ) (r : Record) (e p : ℕ) (elements params : List (List ℕ)) → Left line r e p elements params → Served line r e p elements params
