-- Additions one behind the other, from the empty tally: the statements, to be read without their proofs, which are in proofs/Sums.antt.
use Rattle.std.specs.Prelude.{ℕ, suc, ◌≤◌, ◌<◌, ◌≡◌, ◌&&◌, [], eqb, length, get_or, if◌then◌else◌, Option, Some, None, Result, Ok, Err}
use Rattle.record.specs.declared.Refusal.{Refusal}
use Rattle.tally.specs.Tally.{Tally, row_count, column_count, full, empty, cell, place_of, row_of, column_of, Adds, sum_of, row_sum, column_sum}
use Rattle.tally.specs.Numbers.{place_in, AddsNumbers}

-- ---- one addition, to any tally

-- 25 rows of 9 cells
pub record Whole (t : Tally) : Type 0 where
  pub rows : length t ≡ row_count
  pub columns : (i : ℕ) → i < row_count → length (get_or t i []) ≡ column_count

-- One cell is raised by one, and the rest of the table is as it was.
pub record Raises (old : Tally) (i j : ℕ) (new : Tally) : Type 0 where
  pub is_row : i < row_count
  pub is_column : j < column_count
  pub one : cell new i j ≡ suc (cell old i j)
  pub rest : (k l : ℕ) → (k ≡ i → l ≡ j → ⊥) → cell new k l ≡ cell old k l

-- So it is with each accepted addition.
abbrev pub AcceptedRaisesOne : Type 0
AcceptedRaisesOne = (old new : Tally) (facility severity : Option ℕ) → Whole old → Adds old facility severity (Ok tt) new → Raises old (row_of facility) (column_of severity) new

-- A refused one leaves all.
abbrev pub RefusedLeavesAll : Type 0
RefusedLeavesAll = (old new : Tally) (facility severity : Option ℕ) (f : Refusal) → Adds old facility severity (Err f) new → new ≡ old

-- Any two results that the contract of an addition allows are equal.
abbrev pub OneResult : Type 0
OneResult = (old new new' : Tally) (facility severity : Option ℕ) (a a' : Result (Unit {0}) Refusal) → Adds old facility severity a new → Adds old facility severity a' new' → (a ≡ a') × (new ≡ new')

-- ---- any sequence of additions

-- calls of `add`, each on what the one before it left: the tally behind them, and how many were accepted
pub data Additions : Tally → ℕ → Type 0 where
  none : Additions empty 0
  accepted : {old new : Tally} {n : ℕ} {facility severity : (Option ℕ)} → Additions old n → Adds old facility severity (Ok tt) new → Additions new (suc n)
  refused : {old new : Tally} {n : ℕ} {facility severity : (Option ℕ)} {f : Refusal} → Additions old n → Adds old facility severity (Err f) new → Additions new n

-- how many of the accepted had row i and column j
unfoldable pub of_kind : {t : Tally} {n : ℕ} → ℕ → ℕ → Additions t n → ℕ
of_kind i j none = 0
of_kind i j (accepted {facility = f} {severity = s} before h) =
    if eqb i (row_of f) && eqb j (column_of s) then suc (of_kind i j before) else of_kind i j before
of_kind i j (refused before h) = of_kind i j before

-- The sum over all cells is the number accepted, and so are the sum of the row sums and that of the column sums. A cell holds how many of the accepted were
-- of its kind, which is no more than 32 bits hold.
pub record Counts (t : Tally) (n : ℕ) (calls : Additions t n) : Type 0 where
  pub whole : Whole t
  pub all_cells : sum_of row_count (λ (i : ℕ). sum_of column_count (λ (j : ℕ). cell t i j)) ≡ n
  pub all_rows : sum_of row_count (row_sum t) ≡ n
  pub all_columns : sum_of column_count (column_sum t) ≡ n
  pub each_cell : (i j : ℕ) → cell t i j ≡ of_kind i j calls
  pub fits : (i j : ℕ) → cell t i j ≤ full

abbrev pub CountsAccepted : Type 0
CountsAccepted = (t : Tally) (n : ℕ) (calls : Additions t n) → Counts t n calls

-- ---- the same in numbers, on 25 rows

-- the level of a mark and a number
abbrev pub level_in : ℕ → ℕ → Option ℕ
level_in mark n = if eqb mark 0 then None else Some n

-- A call that answers 0 is an accepted addition of its levels, so that all the above holds of such calls; any other leaves all.
pub record CallAdds (old : Tally) (facility_mark facility severity_mark severity number : ℕ) (new : Tally) : Type 0 where
  pub accepts : number ≡ 0 → Adds old (level_in facility_mark facility) (level_in severity_mark severity) (Ok tt) new
  pub leaves : (number ≡ 0 → ⊥) → new ≡ old

abbrev pub CallsAdd : Type 0
CallsAdd = (old new : Tally) (facility_mark facility severity_mark severity number : ℕ) → length old ≡ row_count
    → AddsNumbers old facility_mark facility severity_mark severity number new → CallAdds old facility_mark facility severity_mark severity number new

-- The levels of a record, by the words that its memory has of them, have their own cell.
abbrev pub OwnCell : Type 0
OwnCell = (last n : ℕ) → (place_in last 0 0 ≡ place_of last None) × (place_in last 1 n ≡ place_of last (Some n))

-- Any two results that the contract of a call allows are equal.
abbrev pub OneAnswer : Type 0
OneAnswer = (old new new' : Tally) (facility_mark facility severity_mark severity n n' : ℕ) → AddsNumbers old facility_mark facility severity_mark severity n new
    → AddsNumbers old facility_mark facility severity_mark severity n' new' → (n ≡ n') × (new ≡ new')
