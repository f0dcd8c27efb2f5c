-- The comparison of two lines: the first line's refusals and then the second's, in the order of the numbers; what differs; and the tables of both.
use Rattle.std.specs.Prelude.{ℕ, ◌≡◌, List, [], length, ℤ, Result, Ok, Err}
use Rattle.base.specs.Fills.{filled}
use Rattle.record.specs.Records.{message_alone}
use Rattle.record.specs.declared.Reading.{Reading}
use Rattle.record.specs.declared.Reading.TheVariants as loose
use Rattle.record.specs.declared.Refusal.TheVariants.{NoReading}
use Rattle.draft.specs.Outcome.{Outcome}
use Rattle.draft.specs.Outcome.Outcome.{no_reading, is_reading}
use Rattle.loose.specs.Loose.{outcome_of, answered, rows_of}
use Rattle.differ.specs.declared.Differences.{Differences}
use Rattle.compare.specs.declared.Refused.{Refused}
use Rattle.differ.specs.Seen.{Seen, seen_of}
use Rattle.differ.specs.Differences.{differences_of}
use Rattle.record.specs.declared.Refusal.{Refusal}

-- no field, no position, no pair
abbrev pub nothing : Differences
nothing = record { fields = 0; position = 0; pair_line = 0; pair_entry = 0 }

-- a line that has no reading is refused with 4
abbrev pub second_of : Result Reading Refusal → Differences → Result Differences Refused
second_of (Err f) d = Err (record { line = 2; refusal = f })
second_of (Ok (loose.Whole r)) d = Err (record { line = 2; refusal = NoReading })
second_of (Ok (loose.Read r e p)) d = Ok d

-- the first line's refusal, then the second's; else what differs
abbrev pub compared_of : Result Reading Refusal → Result Reading Refusal → Differences → Result Differences Refused
compared_of (Err f) y d = Err (record { line = 1; refusal = f })
compared_of (Ok (loose.Whole r)) y d = Err (record { line = 1; refusal = NoReading })
compared_of (Ok (loose.Read r e p)) y d = second_of y d

-- what a line is read as, if it is (else what is asked of no one: the line as its message)
abbrev pub seen_in : List ℕ → Outcome → Seen
seen_in line no_reading = seen_of line (message_alone (length line)) [] []
seen_in line (is_reading r at rows) = seen_of line r rows.elements rows.params

-- a table after the call: the rows in front; unchanged where a line is refused, whichever it is
abbrev pub table_after : Result Differences Refused → List (List ℕ) → List (List ℕ) → List (List ℕ)
table_after (Err x) rows old = old
table_after (Ok d) rows old = filled rows old

-- a comparison with tables that held e₁, p₁ for the first line and e₂, p₂ for the second, and hold e₁', p₁', e₂', p₂'
pub record Compares (line₁ line₂ : List ℕ) (variant year : ℕ) (offset : ℤ) (e₁ p₁ e₂ p₂ : List (List ℕ)) (c : Result Differences Refused) (e₁' p₁' e₂' p₂' : List (List ℕ)) : Type 0 where
  pub answer : c
      ≡ compared_of
      (answered line₁ variant year offset (length e₁) (length p₁))
      (answered line₂ variant year offset (length e₂) (length p₂))
      (differences_of (seen_in line₁ (outcome_of line₁ variant year offset)) (seen_in line₂ (outcome_of line₂ variant year offset)))
  pub elements₁ : e₁' ≡ table_after c (rows_of (outcome_of line₁ variant year offset)).elements e₁
  pub params₁ : p₁' ≡ table_after c (rows_of (outcome_of line₁ variant year offset)).params p₁
  pub elements₂ : e₂' ≡ table_after c (rows_of (outcome_of line₂ variant year offset)).elements e₂
  pub params₂ : p₂' ≡ table_after c (rows_of (outcome_of line₂ variant year offset)).params p₂
