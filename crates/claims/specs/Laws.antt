-- What a user of the check would ask: the statements, to be read without their proofs. Those of `FollowerIsTold` and `ReaderIsTold` are in crate `followers`.
use Rattle.std.specs.Prelude.{ℕ, ◌≤◌, ◌≡◌, List, ◌⊎◌, length, take, Result, Ok, Err}
use Rattle.record.specs.Limits.{line_limit}
use Rattle.record.specs.declared.StrictRecord.{StrictRecord}
use Rattle.record.specs.declared.Refusal.TheVariants as refusal
use Rattle.grammar.specs.Line.{Division, Derives}
use Rattle.grammar.specs.Reading.{data_at, record_of, element_rows, param_rows, StrictReads}
use Rattle.claims.specs.Claims.{pairs, Checks}
use Rattle.record.specs.declared.Refusal.{Refusal}

-- Any two answers that the contract allows are equal.
abbrev pub OneAnswer : Type 0
OneAnswer =
    (line : List ℕ) (r : StrictRecord) (e p : ℕ) (elements params : List (List ℕ)) (a b : Result Unit Refusal)
    → Checks line r e p elements params a → Checks line r e p elements params b → a ≡ b

-- Two claims are the same up to the entries past the counts.
pub record Same (r : StrictRecord) (e p : ℕ) (elements params : List (List ℕ)) (r' : StrictRecord) (e' p' : ℕ) (elements' params' : List (List ℕ)) : Type 0 where
  pub same_record : r ≡ r'
  pub same_elements : e ≡ e'
  pub same_params : p ≡ p'
  pub same_ids : pairs (take e elements) ≡ pairs (take e' elements')
  pub same_entries : take p params ≡ take p' params'

-- Two claims that are told yes for one line are the same.
abbrev pub OneClaim : Type 0
OneClaim =
    (line : List ℕ) (r r' : StrictRecord) (e p e' p' : ℕ) (elements params elements' params' : List (List ℕ))
    → Checks line r e p elements params (Ok tt) → Checks line r' e' p' elements' params' (Ok tt) → Same r e p elements params r' e' p' elements' params'

-- Beside a claim that is told yes, each that differs from it, in whichever number, is told 7 or 16.
abbrev pub ChangedIsRefused : Type 0
ChangedIsRefused =
    (line : List ℕ) (r r' : StrictRecord) (e p e' p' : ℕ) (elements params elements' params' : List (List ℕ)) (a : Result Unit Refusal)
    → Checks line r e p elements params (Ok tt) → (Same r e p elements params r' e' p' elements' params' → ⊥) → Checks line r' e' p' elements' params' a
    → (a ≡ Err refusal.Unsuitable) ⊎ (a ≡ Err refusal.WrongClaim)

-- Who follows the grammar is told yes: of each division of a line that is not too long, in tables that hold the counts.
abbrev pub FollowerIsTold : Type 0
FollowerIsTold =
    (line : List ℕ) (d : Division) (e p : ℕ) (elements params : List (List ℕ)) (a : Result Unit Refusal)
    → length line ≤ line_limit → Derives line d → e ≤ length elements → p ≤ length params
    → pairs (take e elements) ≡ element_rows (data_at d) d.elements → take p params ≡ param_rows 0 (data_at d) d.elements
    → Checks line (record_of d) e p elements params a → a ≡ Ok tt

-- What the strict reader leaves is told yes.
abbrev pub ReaderIsTold : Type 0
ReaderIsTold =
    (line : List ℕ) (e₀ p₀ e₁ p₁ : List (List ℕ)) (r : StrictRecord) (e p : ℕ) (a : Result Unit Refusal)
    → StrictReads line e₀ p₀ (Ok (record { reading = r; elements = e; params = p })) e₁ p₁ → Checks line r e p e₁ p₁ a → a ≡ Ok tt
