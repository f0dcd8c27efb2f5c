-- The same of the calls of include/khamdoriem.h: statements to be read without their proofs, which are in proofs/Called.antt.
use Rattle.std.specs.Prelude.{ℕ, ◌≤◌, ◌≡◌, List, length, ℤ}
use Rattle.record.specs.declared.OutputAnswer.{OutputAnswer}
use Rattle.record.specs.declared.ReadAnswer.{ReadAnswer}
use Rattle.layout.specs.Layout.{record_size, strict_size}
use Rattle.exports.specs.Exports.{LeavesLoose, LeavesStrict, ServesPrint, ServesLookup}
use Rattle.boundary.specs.Called.{Called}
use Rattle.enough.specs.Enough.{elements_for, params_for, print_for, elements_enough, params_enough, print_enough, value_enough}

-- as `Enough` has it
pub record EnoughCalled (Line : List ℕ → Type 0) (e p t v : ℕ) : Type 0 where
  -- No call of a reader answers 5 or 6, nor 8 where the record's memory is as long as the record.
  pub loose_not_5 : {line : List ℕ} {variant year : ℕ} {offset : ℤ} {e₀ p₀ e₁ p₁ : List (List ℕ)} {out memory : List ℕ} {a : ReadAnswer} → Line line
      → e ≤ length e₀ → LeavesLoose line variant year offset e₀ p₀ out a e₁ p₁ memory → a.number ≡ 5 → ⊥
  pub loose_not_6 : {line : List ℕ} {variant year : ℕ} {offset : ℤ} {e₀ p₀ e₁ p₁ : List (List ℕ)} {out memory : List ℕ} {a : ReadAnswer} → Line line
      → p ≤ length p₀ → LeavesLoose line variant year offset e₀ p₀ out a e₁ p₁ memory → a.number ≡ 6 → ⊥
  pub loose_not_8 : {line : List ℕ} {variant year : ℕ} {offset : ℤ} {e₀ p₀ e₁ p₁ : List (List ℕ)} {out memory : List ℕ} {a : ReadAnswer} → Line line
      → record_size ≤ length out → LeavesLoose line variant year offset e₀ p₀ out a e₁ p₁ memory → a.number ≡ 8 → ⊥
  pub strict_not_5 : {line : List ℕ} {e₀ p₀ e₁ p₁ : List (List ℕ)} {out memory : List ℕ} {a : ReadAnswer} → Line line
      → e ≤ length e₀ → LeavesStrict line e₀ p₀ out a e₁ p₁ memory → a.number ≡ 5 → ⊥
  pub strict_not_6 : {line : List ℕ} {e₀ p₀ e₁ p₁ : List (List ℕ)} {out memory : List ℕ} {a : ReadAnswer} → Line line
      → p ≤ length p₀ → LeavesStrict line e₀ p₀ out a e₁ p₁ memory → a.number ≡ 6 → ⊥
  pub strict_not_8 : {line : List ℕ} {e₀ p₀ e₁ p₁ : List (List ℕ)} {out memory : List ℕ} {a : ReadAnswer} → Line line
      → strict_size ≤ length out → LeavesStrict line e₀ p₀ out a e₁ p₁ memory → a.number ≡ 8 → ⊥
  -- Printing of what a call of a reader left does not answer 8,
  pub print_not_8 : {line memory : List ℕ} {elements params : List (List ℕ)} {old new : List ℕ} {a : OutputAnswer} → Line line
      → t ≤ length old → Called line memory elements params → ServesPrint line memory elements params old a new → a.number ≡ 8 → ⊥
  -- nor does lookup, of any memory.
  pub lookup_not_8 : {line memory : List ℕ} {elements params : List (List ℕ)} {id name : List ℕ} {kind : ℕ} {old new : List ℕ} {a : OutputAnswer} → Line line
      → v ≤ length old → ServesLookup line memory elements params id name kind old a new → a.number ≡ 8 → ⊥

pub record CalledAlwaysEnough : Type 0 where
  pub any : EnoughCalled (λ line. Unit {0}) elements_enough params_enough print_enough value_enough
  pub up_to : (n : ℕ) → EnoughCalled (λ line. length line ≤ n) (elements_for n) (params_for n) (print_for n) n
