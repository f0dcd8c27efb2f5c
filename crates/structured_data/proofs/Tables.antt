-- Runs of stores into a table: one after the other, one over the other, and from its front.
use Prim.Native.Nat.{ℕ, suc, ◌+◌, ◌≤◌, ◌<◌}
use mathlib.Core.Path.{◌≡◌, refl, ap, ◌∙◌}
use mathlib.Core.List.{List, [], ◌∷◌, ◌++◌}
use native.Mathlib.Nat.{zero-add}
use native.Mathlib.Omega.{arith}
use lib.ListN.{length, set}
use lib.Seq.{sets, sets-eq, set-set, set_comm}
use Rattle.base.specs.Fills.{filled}

module _ {A : Type 0} where
  pub sets_append : (t : List A) (i : ℕ) (xs ys : List A) → sets t i (xs ++ ys) ≡ sets (sets t i xs) (i + length xs) ys
  sets_append t i [] ys = let p : i ≡ i + 0 = omega arith in ap (λ (k : ℕ). sets t k ys) p
  sets_append t i (x ∷ xs) ys =
      let p : suc i + length xs ≡ i + suc (length xs) = omega arith in
      sets_append (set t i x) (suc i) xs ys ∙ ap (λ (k : ℕ). sets (sets t i (x ∷ xs)) k ys) p

  -- a store before the run
  sets_before : (t : List A) (i j : ℕ) (x : A) (ys : List A) → i < j → set (sets t j ys) i x ≡ sets (set t i x) j ys
  sets_before t i j x [] h = refl
  sets_before t i j x (y ∷ ys) h =
      sets_before (set t j y) i (suc j) x ys (omega arith) ∙ ap (λ (l : List A). sets l (suc j) ys) (set_comm t j i y x (λ e. omega arith))

  -- stores that others cover
  pub sets_over : (t : List A) (i : ℕ) (ys xs : List A) → length ys ≤ length xs → sets (sets t i ys) i xs ≡ sets t i xs
  sets_over t i [] xs h = refl
  sets_over t i (y ∷ ys) [] h = absurd (omega arith)
  sets_over t i (y ∷ ys) (x ∷ xs) h =
      ap (λ (l : List A). sets l (suc i) xs) (sets_before (set t i y) i (suc i) x ys (omega arith) ∙ ap (λ (l : List A). sets l (suc i) ys) (set-set t i y x))
      ∙ sets_over (set t i x) (suc i) ys xs (omega arith)

  pub sets_filled : (rows old : List A) → length rows ≤ length old → sets old 0 rows ≡ filled rows old
  sets_filled rows old h = sets-eq rows old 0 (rw zero-add h) ∙ rw zero-add
