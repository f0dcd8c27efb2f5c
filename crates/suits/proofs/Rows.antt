-- A walk over the rows counted of a table.
use Prim.Native.Nat.{ℕ, ◌+◌, ◌≤◌, ◌<◌}
use mathlib.Core.Path.{◌≡◌}
use mathlib.Core.List.{List, [], ◌∷◌}
use native.Mathlib.Omega.{arith}
use native.Mathlib.Numerals.{add-one}
use lib.ListN.{length, get_or, take, drop, drop_of_length-le}
use lib.Seq.{drop-cons, get_or-take, length-take-le}

module _ {A : Type 0} (rows : List A) (n : ℕ) (fits : n ≤ length rows) where
  counted : length (take n rows) ≡ n
  counted = length-take-le n rows fits

  -- the row at i and the rest
  pub row_step : (i : ℕ) (d : A) → i < n → drop i (take n rows) ≡ get_or rows i d ∷ drop (i + 1) (take n rows)
  row_step i d h = rw (add-one, ← get_or-take n rows i d h) (drop-cons (take n rows) i d (omega (arith, counted)))

  pub rows_ended : (i : ℕ) → n ≤ i → drop i (take n rows) ≡ []
  rows_ended i h = drop_of_length-le (take n rows) {i = i} (omega (arith, counted))
