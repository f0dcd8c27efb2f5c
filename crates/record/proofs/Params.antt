-- Laws of the rows of a table: its length, a store, an entry; and that the rows say all of it.
use Prim.Native.Nat.{ℕ, zero, suc, ◌<◌}
use mathlib.Core.Path.{◌≡◌, refl, sym, ap, ◌∙◌}
use mathlib.Core.List.{List, [], ◌∷◌}
use native.Mathlib.Omega.{arith}
use lib.ListN.{length, set, get_or}
use Rattle.record.specs.declared.Param.{Param}
use Rattle.record.specs.Params.{row_of, rows, blank}

pub rows_length : (ps : List Param) → length (rows ps) ≡ length ps
unfolding rows
rows_length [] = refl
rows_length (p ∷ ps) = ap suc (rows_length ps)

pub rows_set : (ps : List Param) (i : ℕ) (p : Param) → rows (set ps i p) ≡ set (rows ps) i (row_of p)
unfolding rows
rows_set [] i p = refl
rows_set (q ∷ ps) zero p = refl
rows_set (q ∷ ps) (suc i) p = ap (λ (l : List (List ℕ)). row_of q ∷ l) (rows_set ps i p)

pub rows_get : (ps : List Param) (i : ℕ) → i < length ps → row_of (get_or ps i blank) ≡ get_or (rows ps) i []
unfolding rows
rows_get [] i h = absurd (omega arith)
rows_get (q ∷ ps) zero h = refl
rows_get (q ∷ ps) (suc i) h = rows_get ps i (omega arith)

-- the rows say all of a table: they can be read back
unfoldable entry_of : List ℕ → Param
entry_of l = record { element = get_or l 0 0; name_start = get_or l 1 0; name_len = get_or l 2 0; value_start = get_or l 3 0; value_len = get_or l 4 0 }

unfoldable entries : List (List ℕ) → List Param
entries [] = []
entries (l ∷ ls) = entry_of l ∷ entries ls

back : (ps : List Param) → entries (rows ps) ≡ ps
unfolding rows entries entry_of
back [] = refl
back (p ∷ ps) = ap (λ (l : List Param). p ∷ l) (back ps)

pub rows_table : (ps qs : List Param) → rows ps ≡ rows qs → ps ≡ qs
rows_table ps qs e = sym (back ps) ∙ ap entries e ∙ back qs
