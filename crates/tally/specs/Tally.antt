-- A tally: 25 rows, of facilities 0 to 23 and of none, by 9 columns, of severities 0 to 7 and of none. A cell holds a count of 32 bits.
use Rattle.std.specs.Prelude.{ℕ, zero, suc, ◌+◌, ◌≡◌, Bool, ◌&&◌, List, [], eqb, leb, ltb, get_or, set, replicate, if◌then◌else◌, Option, Some, None, Result, Ok, Err}
use Rattle.record.specs.declared.Refusal.TheVariants.{Unsuitable, CellFull}
use Rattle.record.specs.declared.Refusal.{Refusal}

-- ---- rows of counts

abbrev pub Tally : Type 0
Tally = List (List ℕ)

-- the row and the column of none, which are the last
abbrev pub no_facility : ℕ
no_facility = 24

abbrev pub no_severity : ℕ
no_severity = 8

abbrev pub row_count : ℕ
row_count = no_facility + 1

abbrev pub column_count : ℕ
column_count = no_severity + 1

-- the most that a cell can hold
abbrev pub full : ℕ
full = 4294967295

-- a tally at the start
abbrev pub empty : Tally
empty = replicate row_count (replicate column_count 0)

-- what the cell of a row and a column holds
abbrev pub cell : Tally → ℕ → ℕ → ℕ
cell t i j = get_or (get_or t i []) j 0

abbrev pub is_row : ℕ → Bool
is_row i = leb i no_facility

abbrev pub is_column : ℕ → Bool
is_column j = leb j no_severity

abbrev pub is_cell : ℕ → ℕ → Bool
is_cell i j = is_row i && is_column j

-- ---- the row of a facility, and the column of a severity

-- A number below `none` is its own place. A greater one has no place: the one behind the last stands for it, which is no row and no column.
abbrev pub place_of : ℕ → Option ℕ → ℕ
place_of none None = none
place_of none (Some n) = if ltb n none then n else suc none

abbrev pub row_of : Option ℕ → ℕ
row_of = place_of no_facility

abbrev pub column_of : Option ℕ → ℕ
column_of = place_of no_severity

-- ---- an addition

-- 7 where there is no such cell, then 10 where the cell is full
unfoldable pub addition : Tally → ℕ → ℕ → Result (Unit {0}) Refusal
addition t i j =
    if is_cell i j then (if eqb (cell t i j) full then Err CellFull else (Ok tt))
    else Err Unsuitable

-- one more in a cell, and the others as they are
unfoldable pub raised : Tally → ℕ → ℕ → Tally
raised t i j = set t i (set (get_or t i []) j (suc (cell t i j)))

-- the tally behind an answer: a refused addition changes nothing
abbrev pub after : Result (Unit {0}) Refusal → Tally → ℕ → ℕ → Tally
after (Ok tt) t i j = raised t i j
after (Err f) t i j = t

-- A call of `add`.
pub record Adds (old : Tally) (facility severity : Option ℕ) (a : Result (Unit {0}) Refusal) (new : Tally) : Type 0 where
  pub answers : a ≡ addition old (row_of facility) (column_of severity)
  pub leaves : new ≡ after a old (row_of facility) (column_of severity)

-- ---- the reads

-- the sum of f at the first n numbers
unfoldable pub sum_of : ℕ → (ℕ → ℕ) → ℕ
sum_of zero f = 0
sum_of (suc n) f = sum_of n f + f n

abbrev pub row_sum : Tally → ℕ → ℕ
row_sum t i = sum_of column_count (λ (j : ℕ). cell t i j)

abbrev pub column_sum : Tally → ℕ → ℕ
column_sum t j = sum_of row_count (λ (i : ℕ). cell t i j)

-- 7 where there is no such row or column
unfoldable pub cell_read : Tally → ℕ → ℕ → Result ℕ Refusal
cell_read t i j = if is_cell i j then Ok (cell t i j) else Err Unsuitable

unfoldable pub row_read : Tally → ℕ → Result ℕ Refusal
row_read t i = if is_row i then Ok (row_sum t i) else Err Unsuitable

unfoldable pub column_read : Tally → ℕ → Result ℕ Refusal
column_read t j = if is_column j then Ok (column_sum t j) else Err Unsuitable
