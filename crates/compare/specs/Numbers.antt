-- The comparison as C has it.
use Rattle.std.specs.Prelude.{ℕ, ◌≡◌, List, ℤ, Result, Ok, Err}
use Rattle.record.specs.Refusals.{refusal_number}
use Rattle.differ.specs.declared.Differences.{Differences}
use Rattle.compare.specs.declared.Refused.{Refused}
use Rattle.compare.specs.declared.CompareAnswer.{CompareAnswer}
use Rattle.compare.specs.Compare.{Compares}

-- the number (0: done) and the values of each case
abbrev pub answer_of : Result Differences Refused → CompareAnswer
answer_of (Err x) = record { number = refusal_number x.refusal; line = x.line; fields = 0; pair_line = 0; position = 0; pair_entry = 0 }
answer_of (Ok d) = record { number = 0; line = 0; fields = d.fields; pair_line = d.pair_line; position = d.position; pair_entry = d.pair_entry }

pub record Answers (line₁ line₂ : List ℕ) (variant year : ℕ) (offset : ℤ) (e₁ p₁ e₂ p₂ : List (List ℕ)) (a : CompareAnswer) (e₁' p₁' e₂' p₂' : List (List ℕ)) : Type 0 where
  pub compared : Result Differences Refused
  pub compares : Compares line₁ line₂ variant year offset e₁ p₁ e₂ p₂ compared e₁' p₁' e₂' p₂'
  pub is : a ≡ answer_of compared
