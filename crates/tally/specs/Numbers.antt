-- Levels, answers and a tally of any number of rows, as a C caller has them.
use Rattle.std.specs.Prelude.{ℕ, suc, ◌≡◌, Bool, ◌&&◌, eqb, ltb, length, true, if◌then◌else◌, Some, Result, Ok, Err}
use Rattle.record.specs.Refusals.{refusal_number}
use Rattle.record.specs.declared.Refusal.TheVariants.{Unsuitable, OutputShort}
use Rattle.tally.specs.declared.CellAnswer.{CellAnswer}
use Rattle.tally.specs.declared.SumAnswer.{SumAnswer}
use Rattle.tally.specs.Tally.{Tally, no_facility, no_severity, row_count, is_row, is_column, is_cell, place_of, addition, after, cell_read, row_read, column_read}
use Rattle.record.specs.declared.Refusal.{Refusal}

-- ---- a level

-- its place: a mark of 0 with nothing is none, a mark of 1 the number
abbrev pub place_in : ℕ → ℕ → ℕ → ℕ
place_in none mark n =
    if eqb mark 0 && eqb n 0 then none
    else if eqb mark 1 then place_of none (Some n)
    else suc none

-- ---- too few rows

-- 8 where a place is one of a tally, and under 25 rows were lent: behind 7, before 10. Rows past them are of no account.
abbrev pub or_short : {A : Type 0} → Bool → Tally → A → A → A
or_short there t short a = if there && ltb (length t) row_count then short else a

-- whether there is a place and the rows are enough (for private contracts alone)
abbrev pub demanded : Bool → Tally → Result (Unit {0}) Refusal
demanded there t = if there then or_short true t (Err OutputShort) (Ok tt) else Err Unsuitable

unfoldable pub addition_in : Tally → ℕ → ℕ → Result (Unit {0}) Refusal
addition_in t i j = or_short (is_cell i j) t (Err OutputShort) (addition t i j)

unfoldable pub cell_read_in : Tally → ℕ → ℕ → Result ℕ Refusal
cell_read_in t i j = or_short (is_cell i j) t (Err OutputShort) (cell_read t i j)

unfoldable pub row_read_in : Tally → ℕ → Result ℕ Refusal
row_read_in t i = or_short (is_row i) t (Err OutputShort) (row_read t i)

unfoldable pub column_read_in : Tally → ℕ → Result ℕ Refusal
column_read_in t j = or_short (is_column j) t (Err OutputShort) (column_read t j)

-- an addition to a cell (for private contracts alone)
pub record AddsIn (old : Tally) (i j : ℕ) (a : Result (Unit {0}) Refusal) (new : Tally) : Type 0 where
  pub answers : a ≡ addition_in old i j
  pub leaves : new ≡ after a old i j

-- ---- the answers: a number, 0 where it is done, and a value, 0 where it is refused

abbrev pub added_number : Result (Unit {0}) Refusal → ℕ
added_number (Ok tt) = 0
added_number (Err f) = refusal_number f

abbrev pub cell_answer_of : Result ℕ Refusal → CellAnswer
cell_answer_of (Ok n) = record { number = 0; count = n }
cell_answer_of (Err f) = record { number = refusal_number f; count = 0 }

abbrev pub sum_answer_of : Result ℕ Refusal → SumAnswer
sum_answer_of (Ok n) = record { number = 0; sum = n }
sum_answer_of (Err f) = record { number = refusal_number f; sum = 0 }

-- An addition to a cell, in numbers: what is told, and the rows behind it.
pub record AddsAt (old : Tally) (i j number : ℕ) (new : Tally) : Type 0 where
  pub told : number ≡ added_number (addition_in old i j)
  pub leaves : new ≡ after (addition_in old i j) old i j

-- A call.
pub record AddsNumbers (old : Tally) (facility_mark facility severity_mark severity number : ℕ) (new : Tally) : Type 0 where
  pub adds : AddsAt old (place_in no_facility facility_mark facility) (place_in no_severity severity_mark severity) number new
