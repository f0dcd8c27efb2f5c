-- A table that is filled row by row: the rows that are in it, and those still to come.
use Prim.Native.Nat.{ℕ, ◌+◌, ◌≤◌, ◌<◌}
use mathlib.Core.Path.{◌≡◌, refl, sym, ap, ◌∙◌}
use mathlib.Core.List.{List, [], ◌∷◌, ◌++◌, append_assoc, append-nil}
use native.Mathlib.Omega.{arith}
use lib.ListN.{length, set, length-append}
use Rattle.base.specs.Fills.{filled}
use Rattle.base.proofs.Fills.{filled_length, filled_more}

module _ {A : Type 0} where
  -- of the rows `all`, `n` are in the table and `rest` are to come
  pub record Rows (all rest old new : List A) (n : ℕ) : Type 0 where
    pub front : List A
    pub split : all ≡ front ++ rest
    pub count : n ≡ length front
    pub holds : new ≡ filled front old
    pub room : length all ≤ length old

  pub rows_none : (all old : List A) → length all ≤ length old → Rows all all old old 0
  rows_none all old h = record { front = []; split = refl; count = refl; holds = refl; room = h }

  module _ (all rest old new : List A) (n : ℕ) (w : Rows all rest old new n) where
    front_fits : length w.front + length rest ≤ length old
    front_fits = omega (arith, ap length w.split, length-append w.front rest, w.room)

    pub rows_length : length new ≡ length old
    rows_length = ap length w.holds ∙ filled_length w.front old (let f = front_fits in omega arith)

    pub rows_all : rest ≡ [] → new ≡ filled all old
    rows_all e = w.holds ∙ ap (λ (l : List A). filled l old) (sym (w.split ∙ ap (λ (l : List A). w.front ++ l) e ∙ append-nil w.front))

    module _ (x : A) (rest' : List A) (e : rest ≡ x ∷ rest') where
      some_left : length w.front < length old
      some_left = let f = front_fits in let l = ap length e in omega arith

      pub rows_room : n < length new
      rows_room = let f = some_left in omega (arith, w.count, rows_length)

      pub rows_more : Rows all rest' old (set new n x) (n + 1)
      rows_more =
          record {
            front = w.front ++ x ∷ [];
            split = w.split ∙ ap (λ (l : List A). w.front ++ l) e ∙ sym (append_assoc w.front (x ∷ []) rest');
            count = simp length-append (omega (arith, w.count));
            holds = ap (λ (l : List A). set l n x) w.holds ∙ ap (λ (k : ℕ). set (filled w.front old) k x) w.count ∙ filled_more w.front old x x some_left;
            room = w.room;
          }

  pub rows_same : {all rest rest' old new : List A} {n : ℕ} → rest ≡ rest' → Rows all rest old new n → Rows all rest' old new n
  rows_same e w = record { front = w.front; split = w.split ∙ ap (λ (l : List A). w.front ++ l) e; count = w.count; holds = w.holds; room = w.room }
