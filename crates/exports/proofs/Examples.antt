-- Worked examples, computed from the definitions.
use Prim.Native.Nat.{ℕ}
use mathlib.Core.Path.{◌≡◌, refl}
use mathlib.Core.List.{[], ◌∷◌, map}
use Rattle.record.specs.Refusals.{refusal_number}
use Rattle.record.specs.declared.ReadAnswer.{ReadAnswer}
use Rattle.exports.specs.Exports.{interface_number, left_answer, kept, first_refusal}

abbrev told : ℕ → ℕ → ReadAnswer
told n w = record { number = n; whole = w; reach = 0 }

-- as include/khamdoriem.h has it
interface : interface_number ≡ 2
interface = refl

-- 8 comes last: a byte short, and not short; and then no line is told to be the message
answers : left_answer (told 0 1) 216 215 ∷ left_answer (told 1 0) 216 215 ∷ left_answer (told 6 0) 216 0 ∷ left_answer (told 0 1) 216 216 ∷ left_answer (told 4 0) 248 300 ∷ []
    ≡ told 8 0 ∷ told 1 0 ∷ told 6 0 ∷ told 0 1 ∷ told 4 0 ∷ []
answers = refl

-- what was lent is changed by 0 alone
lent : map (λ (n : ℕ). kept {A = ℕ} n 1 2) (0 ∷ 8 ∷ 4 ∷ []) ≡ 1 ∷ 2 ∷ 2 ∷ []
lent = refl

-- 1 before 2 before 7
refusals : map refusal_number (first_refusal 8193 2 ∷ first_refusal 8192 2 ∷ first_refusal 8192 1 ∷ first_refusal 0 0 ∷ []) ≡ 1 ∷ 2 ∷ 7 ∷ 7 ∷ []
refusals = refl
