-- What the program writes of a tally: a line for each cell that is not zero, in the order of rows.
use Rattle.std.specs.Prelude.{ℕ, zero, suc, List, [], ◌++◌, eqb, if◌then◌else◌}
use Rattle.frames.specs.Words.{count_text}
use Rattle.tally.specs.Tally.{Tally, row_count, column_count, cell}

-- the texts of f at the first n numbers, one behind the other
unfoldable pub up_to : ℕ → (ℕ → List ℕ) → List ℕ
up_to zero f = []
up_to (suc n) f = up_to n f ++ f n

-- row, column and count: blanks (32) between them, and LF (10)
abbrev pub cell_line : ℕ → ℕ → ℕ → List ℕ
cell_line i j n = count_text i 32 ++ (count_text j 32 ++ count_text n 10)

unfoldable pub cell_text : ℕ → ℕ → ℕ → List ℕ
cell_text i j n = if eqb n 0 then [] else cell_line i j n

unfoldable pub row_text : Tally → ℕ → List ℕ
row_text t i = up_to column_count (λ (j : ℕ). cell_text i j (cell t i j))

unfoldable pub tally_text : Tally → List ℕ
tally_text t = up_to row_count (λ (i : ℕ). row_text t i)
