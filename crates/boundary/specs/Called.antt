-- What a call of a reader left is served by the calls of printing and lookup, never refused with 7: statements to be read without their proofs, which are in proofs/Memory.antt and proofs/AfterCall.antt.
use Rattle.std.specs.Prelude.{ℕ, ◌≡◌, true, List, eqb, length, take, ℤ, Result, Ok}
use Rattle.record.specs.Answers.{output_answer_of}
use Rattle.record.specs.declared.Record.{Record}
use Rattle.record.specs.declared.Reading.TheVariants as loose
use Rattle.record.specs.declared.StrictRecord.{StrictRecord}
use Rattle.record.specs.declared.OutputAnswer.{OutputAnswer}
use Rattle.record.specs.declared.ReadAnswer.{ReadAnswer}
use Rattle.output.specs.Output.{output_after}
use Rattle.layout.specs.Incoming.{holds_record, record_at, element_count_at, param_count_at}
use Rattle.loose.specs.Loose.{Reads}
use Rattle.grammar.specs.Reading.{StrictReads}
use Rattle.lookup.specs.Lookup.{Found, found, value_text}
use Rattle.message.specs.Message.{printed}
use Rattle.exports.specs.Exports.{LeavesLoose, LeavesStrict, ServesPrint, ServesLookup}
use Rattle.suited.specs.Served.{print_answer, lookup_answer}
use Rattle.record.specs.declared.Refusal.{Refusal}

-- ---- the record's memory

-- It holds a record, and `Reads` is what the reader says of that and its counts.
pub record Holds (memory : List ℕ) (Reads : Record → ℕ → ℕ → Type 0) : Type 0 where
  pub holds : holds_record memory ≡ true
  pub reads : Reads (record_at memory) (element_count_at memory) (param_count_at memory)

-- what a reader answers where it is done: the record and the counts, or the whole line as the message
abbrev pub read : ReadAnswer
read = record { number = 0; whole = 0; reach = 0 }

abbrev pub whole : ReadAnswer
whole = record { number = 0; whole = 1; reach = 0 }

-- what the strict reader says of the fields that its record shares with the loose reader's (bytes 0 to 207)
pub record StrictCommon (line : List ℕ) (e₀ p₀ elements params : List (List ℕ)) (r : Record) (e p : ℕ) : Type 0 where
  pub full : StrictRecord
  pub common : r ≡ full.common
  pub reads : StrictReads line e₀ p₀ (Ok (record { reading = full; elements = e; params = p })) elements params

-- what the loose reader says of a line that is the message
pub record WholeLine (line : List ℕ) (variant year : ℕ) (offset : ℤ) (e₀ p₀ elements params : List (List ℕ)) (r : Record) (e p : ℕ) : Type 0 where
  pub reads : Reads line variant year offset e₀ p₀ (Ok (loose.Whole r)) elements params
  pub no_elements : e ≡ 0
  pub no_params : p ≡ 0

-- After a call of a reader that answered 0 the memory holds the reading's own record and counts.
pub record MemoryHolds : Type 0 where
  pub loose : {line out memory : List ℕ} {variant year : ℕ} {offset : ℤ} {e₀ p₀ elements params : List (List ℕ)}
      → LeavesLoose line variant year offset e₀ p₀ out read elements params memory
      → Holds memory (λ r e p. Reads line variant year offset e₀ p₀ (Ok (loose.Read r e p)) elements params)
  pub whole_line : {line out memory : List ℕ} {variant year : ℕ} {offset : ℤ} {e₀ p₀ elements params : List (List ℕ)}
      → LeavesLoose line variant year offset e₀ p₀ out whole elements params memory
      → Holds memory (WholeLine line variant year offset e₀ p₀ elements params)
  pub strict : {line out memory : List ℕ} {e₀ p₀ elements params : List (List ℕ)}
      → LeavesStrict line e₀ p₀ out read elements params memory
      → Holds memory (StrictCommon line e₀ p₀ elements params)

-- ---- printing and lookup

-- what a call of a reader left in the record's memory and in both tables, where it answered 0
pub data Called (line memory : List ℕ) (elements params : List (List ℕ)) : Type 0 where
  by_loose : {variant year : ℕ} {offset : ℤ} {e₀ p₀ : List (List ℕ)} {out : List ℕ} → LeavesLoose line variant year offset e₀ p₀ out read elements params memory
      → Called line memory elements params
  by_whole : {variant year : ℕ} {offset : ℤ} {e₀ p₀ : List (List ℕ)} {out : List ℕ} → LeavesLoose line variant year offset e₀ p₀ out whole elements params memory
      → Called line memory elements params
  by_strict : {e₀ p₀ : List (List ℕ)} {out : List ℕ} → LeavesStrict line e₀ p₀ out read elements params memory → Called line memory elements params

-- a call that answers `w` in its number and length, with `text` in the output where that is done
pub record Answered (w : Result ℕ Refusal) (text old : List ℕ) (a : OutputAnswer) (new : List ℕ) : Type 0 where
  pub answer : a ≡ output_answer_of w
  pub output : new ≡ output_after w text old

-- the text of the record that the memory holds
abbrev pub text_of : List ℕ → List ℕ → List (List ℕ) → List (List ℕ) → List ℕ
text_of line memory elements params = printed line (record_at memory) (take (element_count_at memory) elements) (take (param_count_at memory) params)

-- the value found among the parameters that the memory counts
abbrev pub found_in : List ℕ → List ℕ → List (List ℕ) → List (List ℕ) → List ℕ → List ℕ → Found
found_in line memory elements params id name = found line elements id name (take (param_count_at memory) params)

-- of a memory and tables
pub record Served (line memory : List ℕ) (elements params : List (List ℕ)) : Type 0 where
  -- Printing answers 8, or it is done; lookup answers 2, 9 or 8, or it is done;
  pub print_answers : {old new : List ℕ} {a : OutputAnswer} → ServesPrint line memory elements params old a new
      → let text = text_of line memory elements params in Answered (print_answer text (length old)) text old a new
  pub lookup_answers : {id name : List ℕ} {kind : ℕ} {old new : List ℕ} {a : OutputAnswer} → ServesLookup line memory elements params id name kind old a new
      → let f = found_in line memory elements params id name in Answered (lookup_answer kind f (length old)) (value_text (eqb kind 0) f) old a new
  -- and neither answers 7.
  pub print_not_7 : {old new : List ℕ} {a : OutputAnswer} → ServesPrint line memory elements params old a new → a.number ≡ 7 → ⊥
  pub lookup_not_7 : {id name : List ℕ} {kind : ℕ} {old new : List ℕ} {a : OutputAnswer} → ServesLookup line memory elements params id name kind old a new
      → a.number ≡ 7 → ⊥

-- What a call of a reader left is served.
abbrev pub CalledIsServed : Type 0
CalledIsServed = (line memory : List ℕ) (elements params : List (List ℕ)) → Called line memory elements params → Served line memory elements params
