-- Which tables and which output are always enough: statements to be read without their proofs, which are in proofs/Enough.antt.
use Rattle.std.specs.Prelude.{ℕ, ◌+◌, ◌/◌, ◌≤◌, ◌≡◌, List, length, ℤ, Result}
use Rattle.record.specs.Answers.{answer_of, strict_answer_of, output_answer_of}
use Rattle.record.specs.Limits.{line_limit}
use Rattle.record.specs.declared.Record.{Record}
use Rattle.record.specs.declared.Reading.{Reading}
use Rattle.record.specs.declared.StrictReading.{StrictReading}
use Rattle.grammar.specs.Reading.{StrictReads}
use Rattle.loose.specs.Loose.{Reads}
use Rattle.lookup.specs.Lookup.{Looks}
use Rattle.message.specs.Prints.{Prints}
use Rattle.suited.specs.Served.{Left}
use Rattle.record.specs.declared.Refusal.{Refusal}

-- ---- for a line of `n` bytes

-- An element takes 3 bytes of the line at least: `[a]`.
abbrev pub elements_for : ℕ → ℕ
elements_for n = n / 3

-- A parameter takes 5: ` a=""`.
abbrev pub params_for : ℕ → ℕ
params_for n = n / 5

-- A text may be longer than its line. `Feb 5 1:2:3`, 11 bytes, is printed as `<47> ` and 25 bytes and ` - : `, and elements with a space after them: 25 bytes more.
-- An element whose first parameter stands behind the id with no blank, which takes 7 bytes, is printed with a space between: one byte more.
-- No line grows further: 25 + (n - 11) / 7.
abbrev pub print_for : ℕ → ℕ
print_for n = n + (n + 164) / 7

-- ---- for every line

abbrev pub elements_enough : ℕ
elements_enough = elements_for line_limit

abbrev pub params_enough : ℕ
params_enough = params_for line_limit

abbrev pub print_enough : ℕ
print_enough = print_for line_limit

-- A value is a part of the line, which unescaping does not make longer.
abbrev pub value_enough : ℕ
value_enough = line_limit

-- ---- the statements

-- These are enough for each of the lines: an element table of `e` entries, a parameter table of `p`, an output of `t` bytes for printing and of `v` for lookup.
pub record Enough (Line : List ℕ → Type 0) (e p t v : ℕ) : Type 0 where
  -- Neither reader answers 5 or 6.
  pub loose_not_5 : {line : List ℕ} {variant year : ℕ} {offset : ℤ} {e₀ p₀ e₁ p₁ : List (List ℕ)} {r : (Result Reading Refusal)} → Line line → e ≤ length e₀
      → Reads line variant year offset e₀ p₀ r e₁ p₁ → (answer_of r).number ≡ 5 → ⊥
  pub loose_not_6 : {line : List ℕ} {variant year : ℕ} {offset : ℤ} {e₀ p₀ e₁ p₁ : List (List ℕ)} {r : (Result Reading Refusal)} → Line line → p ≤ length p₀
      → Reads line variant year offset e₀ p₀ r e₁ p₁ → (answer_of r).number ≡ 6 → ⊥
  pub strict_not_5 : {line : List ℕ} {e₀ p₀ e₁ p₁ : List (List ℕ)} {r : (Result StrictReading Refusal)} → Line line → e ≤ length e₀
      → StrictReads line e₀ p₀ r e₁ p₁ → (strict_answer_of r).number ≡ 5 → ⊥
  pub strict_not_6 : {line : List ℕ} {e₀ p₀ e₁ p₁ : List (List ℕ)} {r : (Result StrictReading Refusal)} → Line line → p ≤ length p₀
      → StrictReads line e₀ p₀ r e₁ p₁ → (strict_answer_of r).number ≡ 6 → ⊥
  -- Printing of what a reader left does not answer 8,
  pub print_not_8 : {line : List ℕ} {r : Record} {m n : ℕ} {elements params : List (List ℕ)} {before after : List ℕ} {w : (Result ℕ Refusal)} → Line line → t ≤ length before
      → Left line r m n elements params → Prints line r m n elements params before w after → (output_answer_of w).number ≡ 8 → ⊥
  -- nor does lookup, of any record.
  pub lookup_not_8 : {line : List ℕ} {r : Record} {m n : ℕ} {elements params : List (List ℕ)} {id name : List ℕ} {kind : ℕ} {before after : List ℕ} {w : (Result ℕ Refusal)}
      → Line line → v ≤ length before → Looks line r m n elements params id name kind before w after → (output_answer_of w).number ≡ 8 → ⊥

pub record AlwaysEnough : Type 0 where
  -- whatever the line: one of more than 8,192 bytes is refused with 1
  pub any : Enough (λ line. Unit {0}) elements_enough params_enough print_enough value_enough
  -- for a host whose lines are no longer than `n`
  pub up_to : (n : ℕ) → Enough (λ line. length line ≤ n) (elements_for n) (params_for n) (print_for n) n
