-- What is demanded of the services, as statements to be read without their proofs, which are in proofs/Demands.antt.
use Rattle.std.specs.Prelude.{ℕ, ◌<◌, ◌≤◌, ◌≡◌, Bool, true, false, ◌||◌, List, [], ◌∷◌, eqb, length, ℤ, Result as StdResult, Ok, Err}
use Rattle.base.specs.Fills.{filled}
use Rattle.record.specs.Limits.{line_limit}
use Rattle.record.specs.Records.{message_alone, empty_record, empty_strict}
use Rattle.record.specs.declared.Record.{Record}
use Rattle.record.specs.declared.Reading.{Reading}
use Rattle.record.specs.declared.Reading.TheVariants.{Whole}
use Rattle.record.specs.declared.StrictReading.{StrictReading}
use Rattle.record.specs.declared.StrictRecord.{StrictRecord}
use Rattle.record.specs.declared.Refusal.TheVariants.{LineTooLong, NoReading, TooManyElements, TooManyParams}
use Rattle.utf8.specs.Lead.{is_utf8}
use Rattle.draft.specs.Outcome.Outcome.{no_reading}
use Rattle.loose.specs.Loose.{outcome_of, settings_ok, Reads}
use Rattle.grammar.specs.Line.{Division, Derives}
use Rattle.grammar.specs.Reading.{data_at, record_of, param_count, element_rows, param_rows, StrictReads}
use Rattle.contracts.specs.Services.{Service, Elements, Params, Given, Result, Values, values, number, Contract, before, after, rest}
use Rattle.record.specs.declared.Refusal.{Refusal}

-- ---- RULES Demands 1, its last words

-- A refused call changes nothing it was lent.
abbrev pub RefusedChangesNothing : Type 0
RefusedChangesNothing = (s : Service) (i : Given s) (x : Result s) → Contract s i x → (number s x ≡ 0 → ⊥) → after s x ≡ before s i

-- ---- RULES Numbers d

-- the number, and the empty record and zero counts, or the length 0
abbrev pub refused_with : (s : Service) → ℕ → Values s
refused_with Service.loose n = record { number = n; whole = false; reading = empty_record; elements = 0; params = 0 }
refused_with Service.strict n = record { number = n; reading = empty_strict; elements = 0; params = 0 }
refused_with Service.print n = record { number = n; len = 0 }
refused_with Service.lookup n = record { number = n; len = 0 }

-- Where the number is not 0 the answer has these values.
abbrev pub RefusedIsEmpty : Type 0
RefusedIsEmpty = (s : Service) (x : Result s) → (number s x ≡ 0 → ⊥) → values s x ≡ refused_with s (number s x)

-- ---- RULES Record 12 and Services 7

-- Entries past the counts and bytes past the result are as they were.
abbrev pub RestIsKept : Type 0
RestIsKept = (s : Service) (i : Given s) (x : Result s) → Contract s i x → rest s x (after s x) ≡ rest s x (before s i)

-- ---- RULES Numbers b

-- 0 where the call is done; the loose reader gives 1, 2, 3, 5, 6, the strict one 1, 4, 5, 6, printing 1, 7, 8, lookup 1, 2, 7, 9, 8
abbrev pub numbers : Service → List ℕ
numbers Service.loose = 0 ∷ 1 ∷ 2 ∷ 3 ∷ 5 ∷ 6 ∷ []
numbers Service.strict = 0 ∷ 1 ∷ 4 ∷ 5 ∷ 6 ∷ []
numbers Service.print = 0 ∷ 1 ∷ 7 ∷ 8 ∷ []
numbers Service.lookup = 0 ∷ 1 ∷ 2 ∷ 7 ∷ 9 ∷ 8 ∷ []

abbrev pub among : ℕ → List ℕ → Bool
among n [] = false
among n (m ∷ l) = eqb n m || among n l

-- No call answers another number.
abbrev pub NoOtherNumber : Type 0
NoOtherNumber = (s : Service) (i : Given s) (x : Result s) → Contract s i x → among (number s x) (numbers s) ≡ true

-- ---- RULES Contracts 1

-- Any two results that the contract allows of one call are equal: answer, record, counts, tables and output.
abbrev pub OneResult : Service → Type 0
OneResult s = (i : Given s) (x y : Result s) → Contract s i x → Contract s i y → x ≡ y

-- ---- the words of what follows

-- the one where the other is, and there only
pub record Exactly (P Q : Type 0) : Type 0 where
  pub only : P → Q
  pub whenever : Q → P

-- ---- a line that the rules give no reading

-- the answer is the whole line as the message
pub record AnsweredWhole (r : StdResult Reading Refusal) : Type 0 where
  pub reading : Record
  pub is : r ≡ Ok (Whole reading)

-- none of the refusals 1, 2 and 3 applies, and the rules give no reading
pub record Unread (line : List ℕ) (variant year : ℕ) (offset : ℤ) : Type 0 where
  pub limit : length line ≤ line_limit
  pub settings : settings_ok variant year offset ≡ true
  pub text : is_utf8 line ≡ true
  pub none : outcome_of line variant year offset ≡ no_reading

-- of a call of the loose reader on a line, with tables that held e₀ and p₀, which answers r and leaves e₁ and p₁ in them
pub record LooseCall (line : List ℕ) (variant year : ℕ) (offset : ℤ) (e₀ : Elements) (p₀ : Params) (r : StdResult Reading Refusal) (e₁ : Elements) (p₁ : Params) : Type 0 where
  -- It answers the whole line exactly where the rules give no reading,
  pub whole_exactly : Exactly (AnsweredWhole r) (Unread line variant year offset)
  -- and then with the message alone, and the tables as they were.
  pub whole_is_alone : AnsweredWhole r → r ≡ Ok (Whole (message_alone (length line)))
  pub tables_kept : AnsweredWhole r → (e₁ ≡ e₀) × (p₁ ≡ p₀)

pub record LooseCalls : Type 0 where
  -- Each call is as said above.
  pub each_call : {line : List ℕ} {variant year : ℕ} {offset : ℤ} {e₀ : Elements} {p₀ : Params} {r : StdResult Reading Refusal} {e₁ : Elements} {p₁ : Params}
      → Reads line variant year offset e₀ p₀ r e₁ p₁ → LooseCall line variant year offset e₀ p₀ r e₁ p₁

-- ---- the words of RULES Demands 3

-- the answer is a record with its counts, and no refusal
pub record Accepted (r : StdResult StrictReading Refusal) : Type 0 where
  pub reading : StrictRecord
  pub elements : ℕ
  pub params : ℕ
  pub is : r ≡ Ok (record { reading = reading; elements = elements; params = params })

-- the grammar derives the line, which has at most 8,192 bytes, and `Many` holds of the counts of its elements and its parameters
pub record Derived (line : List ℕ) (Many : ℕ → ℕ → Type 0) : Type 0 where
  pub division : Division
  pub derived : Derives line division
  pub short : length line ≤ line_limit
  pub many : Many (length division.elements) (param_count division.elements)

-- the tables have room for both
abbrev pub Derivable : List ℕ → Elements → Params → Type 0
Derivable line e₀ p₀ = Derived line (λ e p. (e ≤ length e₀) × (p ≤ length p₀))

-- there are more elements than their table has entries
abbrev pub ElementsOver : List ℕ → Elements → Type 0
ElementsOver line e₀ = Derived line (λ e p. length e₀ < e)

-- there are no more elements than that, but more parameters than their table has entries
abbrev pub ParamsOver : List ℕ → Elements → Params → Type 0
ParamsOver line e₀ p₀ = Derived line (λ e p. (e ≤ length e₀) × (length p₀ < p))

-- the grammar derives the line in no way
abbrev pub Underivable : List ℕ → Type 0
Underivable line = (d : Division) → Derives line d → ⊥

-- the answer's record and counts are those of the division d, and so are the tables in front of the entries that they keep
pub record Holds (d : Division) (e₀ : Elements) (p₀ : Params) (r : StdResult StrictReading Refusal) (e₁ : Elements) (p₁ : Params) : Type 0 where
  pub answer : r ≡ Ok (record { reading = record_of d; elements = length d.elements; params = param_count d.elements })
  pub elements : e₁ ≡ filled (element_rows (data_at d) d.elements) e₀
  pub params : p₁ ≡ filled (param_rows 0 (data_at d) d.elements) p₀

-- ---- RULES Demands 3

-- of a call of the strict reader on a line, with tables that held e₀ and p₀, which answers r and leaves e₁ and p₁ in them
pub record StrictCall (line : List ℕ) (e₀ : Elements) (p₀ : Params) (r : StdResult StrictReading Refusal) (e₁ : Elements) (p₁ : Params) : Type 0 where
  -- It accepts exactly what the grammar derives,
  pub accepts_exactly : Exactly (Accepted r) (Derivable line e₀ p₀)
  -- and refuses as no reading exactly what the grammar does not derive.
  pub refuses_exactly : Exactly (r ≡ Err NoReading) ((length line ≤ line_limit) × Underivable line)
  -- With 5 it refuses exactly what the grammar derives with more elements than their table has entries,
  pub five_exactly : Exactly (r ≡ Err TooManyElements) (ElementsOver line e₀)
  -- and with 6 exactly what it derives with no more elements than that, but with more parameters than their table has entries.
  pub six_exactly : Exactly (r ≡ Err TooManyParams) (ParamsOver line e₀ p₀)
  -- The record and the tables hold the one division there is.
  pub holds_the_one : Accepted r → (d : Division) → Derives line d → Holds d e₀ p₀ r e₁ p₁
  -- A line has at most 8,192 bytes: a longer one, and no other, is refused as too long.
  pub limit_exactly : Exactly (r ≡ Err LineTooLong) (line_limit < length line)

pub record Demand3 : Type 0 where
  -- No line has two divisions.
  pub one_division : (line : List ℕ) (d d' : Division) → Derives line d → Derives line d' → d ≡ d'
  -- Each call is as said above.
  pub each_call : {line : List ℕ} {e₀ : Elements} {p₀ : Params} {r : StdResult StrictReading Refusal} {e₁ : Elements} {p₁ : Params}
      → StrictReads line e₀ p₀ r e₁ p₁ → StrictCall line e₀ p₀ r e₁ p₁
