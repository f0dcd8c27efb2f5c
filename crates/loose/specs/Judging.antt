-- What the reader knows of a line before a table is touched. (For private contracts alone.)
use Rattle.std.specs.Prelude.{ℕ, ◌-◌, ◌≤◌, ◌≡◌, List, Bool, true, false, length, take, ℤ, Result, Ok}
use Rattle.utf8.specs.Lead.{is_utf8}
use Rattle.record.specs.Limits.{line_limit}
use Rattle.record.specs.declared.Record.{Record}
use Rattle.record.specs.declared.Reading.{Reading}
use Rattle.record.specs.declared.Reading.TheVariants.{Read}
use Rattle.structured_data.specs.Data.{data_from, rows_or}
use Rattle.structured_data.specs.Tables.{Room, Fills}
use Rattle.structured_data.specs.declared.Rules.{Rules}
use Rattle.structured_data.specs.declared.Rules.TheVariants.{Rfc3164Rules}
use Rattle.draft.specs.Outcome.{Outcome}
use Rattle.draft.specs.Outcome.Outcome.{is_reading}
use Rattle.loose.specs.Loose.{outcome_of, settings_ok, answered, table_after}
use Rattle.loose.specs.declared.Judged.{Judged}
use Rattle.loose.specs.declared.Judged.TheVariants.{Settled, Fitting}
use Rattle.loose.specs.declared.Data.{Data}
use Rattle.record.specs.declared.Refusal.{Refusal}

-- a reading of the text `s` whose rows are those of its structured data by the rules
pub record Drafts (s : List ℕ) (o : Outcome) (rules : Rules) (r : Record) (at e p : ℕ) : Type 0 where
  pub is : o ≡ is_reading r at (rows_or at (data_from rules s at))
  pub elements_are : e ≡ length (rows_or at (data_from rules s at)).elements
  pub params_are : p ≡ length (rows_or at (data_from rules s at)).params

-- none of the refusals 1, 2 and 3
pub record Passes (line : List ℕ) (variant year : ℕ) (offset : ℤ) : Type 0 where
  pub short : length line ≤ line_limit
  pub settings : settings_ok variant year offset ≡ true
  pub text : is_utf8 line ≡ true

-- a reading that the tables of `e` and `p` entries have room for: the text ends at `end`
pub record Fits (line : List ℕ) (variant year : ℕ) (offset : ℤ) (e p : ℕ) (rules : Rules) (r : Record) (end at n m : ℕ) : Type 0 where
  pub passes : Passes line variant year offset
  pub inside : end ≤ length line
  pub drafts : Drafts (take end line) (outcome_of line variant year offset) rules r at n m
  pub elements_fit_lem : n ≤ e
  pub params_fit_lem : m ≤ p

-- an answer that leaves the tables as they are
pub record Settles (line : List ℕ) (variant year : ℕ) (offset : ℤ) (e p : ℕ) (x : Result Reading Refusal) : Type 0 where
  pub answer : x ≡ answered line variant year offset e p
  pub keeps : (rows old : List (List ℕ)) → old ≡ table_after x rows old

abbrev pub JudgesOf : List ℕ → ℕ → ℕ → ℤ → ℕ → ℕ → Judged → Type 0
JudgesOf line variant year offset e p (Settled x) = Settles line variant year offset e p x
JudgesOf line variant year offset e p (Fitting rules end at r n m) = Fits line variant year offset e p rules r end at n m

pub record Judges (line : List ℕ) (variant year : ℕ) (offset : ℤ) (e p : ℕ) (j : Judged) : Type 0 where
  pub is : JudgesOf line variant year offset e p j

abbrev pub is_fitting : Judged → Bool
is_fitting (Settled x) = false
is_fitting (Fitting rules end at r n m) = true

-- what the rows are stored by
abbrev pub rules_of : Judged → Rules
rules_of (Settled x) = Rfc3164Rules
rules_of (Fitting rules end at r n m) = rules

abbrev pub data_of : Judged → Data
data_of (Settled x) = record { end = 0; at = 0; ids = 0; params = 0 }
data_of (Fitting rules end at r n m) = record { end = end; at = at; ids = n; params = m }

abbrev pub reading_of : Judged → Result Reading Refusal
reading_of (Settled x) = x
reading_of (Fitting rules end at r n m) = Ok (Read r n m)

-- where the line is read, tables with room for its rows
pub record Fillable (line : List ℕ) (j : Judged) (e₀ p₀ : List (List ℕ)) : Type 0 where
  pub inside : is_fitting j ≡ true → (data_of j).end ≤ length line
  pub room : is_fitting j ≡ true → Room (rules_of j) (take ((data_of j).end - 0) line) (data_of j).at (data_of j).ids (data_of j).params e₀ p₀

-- tables that held e₀ and p₀: filled with the rows where the line is read, else as they were
pub record FilledIn (line : List ℕ) (j : Judged) (e₀ p₀ e₁ p₁ : List (List ℕ)) : Type 0 where
  pub elements_kept : is_fitting j ≡ false → e₁ ≡ e₀
  pub params_kept : is_fitting j ≡ false → p₁ ≡ p₀
  pub filled_in : is_fitting j ≡ true → Fills (rules_of j) (take ((data_of j).end - 0) line) (data_of j).at e₀ p₀ e₁ p₁
