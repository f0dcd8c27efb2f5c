-- Worked examples, computed from the definitions: every number of a tally from both sides.
use Rattle.std.specs.Prelude.{Some, None, Ok, Err}
use Prim.Native.Nat.{ℕ}
use mathlib.Core.Path.{◌≡◌, refl}
use mathlib.Core.List.{[], ◌∷◌, ◌++◌, map}
use lib.ListN.{length, replicate, set}
use Rattle.record.specs.declared.Refusal.TheVariants.{Unsuitable, OutputShort, CellFull}
use Rattle.tally.specs.Tally.{Tally, full, empty, row_of, column_of, addition, raised, after, sum_of, cell_read, row_read, column_read}
use Rattle.tally.specs.Numbers.{place_in, addition_in, cell_read_in, row_read_in, column_read_in, added_number, cell_answer_of, sum_answer_of}

-- ---- rows and columns

size : map length empty ≡ 9 ∷ 9 ∷ 9 ∷ 9 ∷ 9 ∷ 9 ∷ 9 ∷ 9 ∷ 9 ∷ 9 ∷ 9 ∷ 9 ∷ 9 ∷ 9 ∷ 9 ∷ 9 ∷ 9 ∷ 9 ∷ 9 ∷ 9 ∷ 9 ∷ 9 ∷ 9 ∷ 9 ∷ 9 ∷ []
size = refl

-- facility 23 is the last, 24 has no row, and none has row 24
facilities : map row_of (Some 0 ∷ Some 22 ∷ Some 23 ∷ Some 24 ∷ Some 25 ∷ Some 255 ∷ None ∷ []) ≡ 0 ∷ 22 ∷ 23 ∷ 25 ∷ 25 ∷ 25 ∷ 24 ∷ []
facilities = refl

-- severity 7 is the last, 8 has no column, and none has column 8
severities : map column_of (Some 0 ∷ Some 6 ∷ Some 7 ∷ Some 8 ∷ Some 9 ∷ Some 255 ∷ None ∷ []) ≡ 0 ∷ 6 ∷ 7 ∷ 9 ∷ 9 ∷ 9 ∷ 8 ∷ []
severities = refl

-- ---- additions

-- to the cells of row 24 and of column 8, and to none behind them
corners : map (λ (i : ℕ). addition empty i 8) (0 ∷ 23 ∷ 24 ∷ 25 ∷ []) ≡ (Ok tt) ∷ (Ok tt) ∷ (Ok tt) ∷ Err Unsuitable ∷ []
unfolding addition
corners = refl

edges : map (λ (j : ℕ). addition empty 24 j) (0 ∷ 7 ∷ 8 ∷ 9 ∷ []) ≡ (Ok tt) ∷ (Ok tt) ∷ (Ok tt) ∷ Err Unsuitable ∷ []
unfolding addition
edges = refl

-- a tally with n in row 24 and column 8
abbrev last : ℕ → Tally
last n = set empty 24 (set (replicate 9 0) 8 n)

-- 4,294,967,294 has room for one more, 4,294,967,295 has not
limit : map (λ (n : ℕ). addition (last n) 24 8) (0 ∷ 4294967294 ∷ 4294967295 ∷ []) ≡ (Ok tt) ∷ (Ok tt) ∷ Err CellFull ∷ []
unfolding addition
limit = refl

-- the cell beside a full one has room
beside : (addition (last 4294967295) 24 7 ≡ (Ok tt)) × (addition (last 4294967295) 23 8 ≡ (Ok tt))
unfolding addition
beside = (refl, refl)

-- one cell is raised, in its row and in its column; a refused addition changes nothing
afters : (after (Ok tt) (last 4294967294) 24 8 ≡ last 4294967295)
    × (after (Ok tt) empty 3 6 ≡ replicate 3 (replicate 9 0) ++ (0 ∷ 0 ∷ 0 ∷ 0 ∷ 0 ∷ 0 ∷ 1 ∷ 0 ∷ 0 ∷ []) ∷ replicate 21 (replicate 9 0))
    × (after (Err CellFull) (last 4294967295) 24 8 ≡ last 4294967295)
unfolding raised
afters = (refl, refl, refl)

-- ---- reads

-- 24 rows of 1 to 9, and a last one of tens
abbrev some : Tally
some = replicate 24 (1 ∷ 2 ∷ 3 ∷ 4 ∷ 5 ∷ 6 ∷ 7 ∷ 8 ∷ 9 ∷ []) ++ (10 ∷ 20 ∷ 30 ∷ 40 ∷ 50 ∷ 60 ∷ 70 ∷ 80 ∷ 90 ∷ []) ∷ []

counts : (map (λ (i : ℕ). cell_read some i 8) (0 ∷ 23 ∷ 24 ∷ 25 ∷ []) ≡ Ok 9 ∷ Ok 9 ∷ Ok 90 ∷ Err Unsuitable ∷ [])
    × (map (λ (j : ℕ). cell_read some 24 j) (0 ∷ 7 ∷ 8 ∷ 9 ∷ []) ≡ Ok 10 ∷ Ok 80 ∷ Ok 90 ∷ Err Unsuitable ∷ [])
unfolding cell_read
counts = (refl, refl)

-- none is of each sum: 9 and 90 of the rows' 45 and 450, 10 to 90 of the columns'
row_sums : map (row_read some) (0 ∷ 23 ∷ 24 ∷ 25 ∷ []) ≡ Ok 45 ∷ Ok 45 ∷ Ok 450 ∷ Err Unsuitable ∷ []
unfolding row_read sum_of
row_sums = refl

column_sums : map (column_read some) (0 ∷ 7 ∷ 8 ∷ 9 ∷ []) ≡ Ok 34 ∷ Ok 272 ∷ Ok 306 ∷ Err Unsuitable ∷ []
unfolding column_read sum_of
column_sums = refl

-- sums of full cells do not wrap
abbrev all_full : Tally
all_full = replicate 25 (replicate 9 full)

large : (row_read all_full 24 ≡ Ok 38654705655) × (column_read all_full 8 ≡ Ok 107374182375)
unfolding row_read column_read sum_of
large = (refl, refl)

-- ---- in numbers

-- mark 0 with nothing is none, mark 1 the number; a number beside mark 0 and any other mark have no place
marks : (place_in 24 0 0 ≡ 24) × (place_in 24 0 1 ≡ 25) × (place_in 24 1 0 ≡ 0) × (place_in 24 1 23 ≡ 23) × (place_in 24 1 24 ≡ 25) × (place_in 24 1 4294967295 ≡ 25)
    × (place_in 24 2 0 ≡ 25) × (place_in 24 2 5 ≡ 25) × (place_in 8 0 0 ≡ 8) × (place_in 8 1 7 ≡ 7) × (place_in 8 1 8 ≡ 9)
marks = (refl, refl, refl, refl, refl, refl, refl, refl, refl, refl, refl)

abbrev rows : ℕ → ℕ → Tally
rows k n = replicate k (replicate 9 n)

-- under 25 rows: behind 7, before 10; a 26th row is of no account
short : (map (λ (k : ℕ). addition_in (rows k full) 24 8) (0 ∷ 24 ∷ 25 ∷ []) ≡ Err OutputShort ∷ Err OutputShort ∷ Err CellFull ∷ [])
    × (map (λ (k : ℕ). addition_in (rows k 0) 0 0) (24 ∷ 25 ∷ 26 ∷ []) ≡ Err OutputShort ∷ (Ok tt) ∷ (Ok tt) ∷ [])
    × (addition_in (rows 24 0) 25 0 ≡ Err Unsuitable) × (addition_in (rows 24 0) 0 9 ≡ Err Unsuitable) × (addition_in (rows 26 0) 25 0 ≡ Err Unsuitable)
unfolding addition_in addition
short = (refl, refl, refl, refl, refl)

short_reads : (map (λ (k : ℕ). cell_read_in (rows k 5) 24 8) (24 ∷ 25 ∷ 26 ∷ []) ≡ Err OutputShort ∷ Ok 5 ∷ Ok 5 ∷ [])
    × (map (λ (k : ℕ). row_read_in (rows k 5) 24) (24 ∷ 25 ∷ 26 ∷ []) ≡ Err OutputShort ∷ Ok 45 ∷ Ok 45 ∷ [])
    × (map (λ (k : ℕ). column_read_in (rows k 5) 8) (24 ∷ 25 ∷ 26 ∷ []) ≡ Err OutputShort ∷ Ok 125 ∷ Ok 125 ∷ [])
    × (cell_read_in (rows 24 5) 25 0 ≡ Err Unsuitable) × (row_read_in (rows 26 5) 25 ≡ Err Unsuitable) × (column_read_in (rows 24 5) 9 ≡ Err Unsuitable)
unfolding cell_read_in row_read_in column_read_in cell_read row_read column_read sum_of
short_reads = (refl, refl, refl, refl, refl, refl)

numbers : (map added_number ((Ok tt) ∷ Err Unsuitable ∷ Err OutputShort ∷ Err CellFull ∷ []) ≡ 0 ∷ 7 ∷ 8 ∷ 10 ∷ [])
    × (map cell_answer_of (Ok 5 ∷ Err Unsuitable ∷ []) ≡ record { number = 0; count = 5 } ∷ record { number = 7; count = 0 } ∷ [])
    × (map sum_answer_of (Ok 45 ∷ Err OutputShort ∷ []) ≡ record { number = 0; sum = 45 } ∷ record { number = 8; sum = 0 } ∷ [])
numbers = (refl, refl, refl)
