-- The contract of the check: a claim is told yes exactly when it is what the strict grammar gives for the line. No parser and no check is named.
use Rattle.std.specs.Prelude.{ℕ, ◌≤◌, ◌<◌, ◌≡◌, Bool, true, false, ◌&&◌, List, [], ◌∷◌, map, length, get_or, take, Result, Ok, Err}
use Rattle.record.specs.Limits.{line_limit}
use Rattle.record.specs.Refusals.{refusal_number}
use Rattle.record.specs.declared.StrictRecord.{StrictRecord}
use Rattle.record.specs.declared.Refusal.TheVariants.{LineTooLong, Unsuitable, WrongClaim}
use Rattle.grammar.specs.Line.{Division, Derives}
use Rattle.grammar.specs.Reading.{data_at, record_of, element_rows, param_rows}
use Rattle.suits.specs.Suits.{place_suits, suits}
use Rattle.record.specs.declared.Refusal.{Refusal}

-- A strict record and the entries that are counted of both tables.
pub record Claim : Type 0 where
  pub reading : StrictRecord
  pub elements : List (List ℕ)
  pub params : List (List ℕ)

-- that of a division of the line
unfoldable pub claim_of : Division → Claim
claim_of d = record { reading = record_of d; elements = element_rows (data_at d) d.elements; params = param_rows 0 (data_at d) d.elements }

-- There is a division of the line whose claim this is.
pub record Claimed (line : List ℕ) (c : Claim) : Type 0 where
  pub division : Division
  pub derives : Derives line division
  pub is : c ≡ claim_of division

-- an entry of the element table is its two numbers
abbrev pub pair_of : List ℕ → List ℕ
pair_of row = get_or row 0 0 ∷ get_or row 1 0 ∷ []

abbrev pub pairs : List (List ℕ) → List (List ℕ)
pairs rows = map pair_of rows

-- the claim that a record, counts and tables make: entries past the counts are of no account
abbrev pub claim_in : StrictRecord → ℕ → ℕ → List (List ℕ) → List (List ℕ) → Claim
claim_in r e p elements params = record { reading = r; elements = pairs (take e elements); params = take p params }

-- Refusal 7, where the place of the timestamp's text is a place like the others.
abbrev pub claim_suits : List ℕ → StrictRecord → ℕ → ℕ → List (List ℕ) → List (List ℕ) → Bool
claim_suits line r e p elements params =
    suits line r.common e p elements params && place_suits line r.timestamp_text.start r.timestamp_text.len

-- The contract: 1, then 7, then 16 for a wrong claim; else yes.
pub data Checks (line : List ℕ) (r : StrictRecord) (e p : ℕ) (elements params : List (List ℕ)) (a : Result Unit Refusal) : Type 0 where
  too_long : line_limit < length line → a ≡ Err LineTooLong → Checks line r e p elements params a
  unsuitable : length line ≤ line_limit → claim_suits line r e p elements params ≡ false → a ≡ Err Unsuitable → Checks line r e p elements params a
  wrong : length line ≤ line_limit → claim_suits line r e p elements params ≡ true → (Claimed line (claim_in r e p elements params) → ⊥) → a ≡ Err WrongClaim
      → Checks line r e p elements params a
  told_yes : length line ≤ line_limit → claim_suits line r e p elements params ≡ true → Claimed line (claim_in r e p elements params) → a ≡ Ok tt
      → Checks line r e p elements params a

-- the number of each answer, 0 for yes
abbrev pub checked_number : Result Unit Refusal → ℕ
checked_number (Ok t) = 0
checked_number (Err f) = refusal_number f
