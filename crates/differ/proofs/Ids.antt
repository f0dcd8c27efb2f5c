-- The ids: the loop that compares them, and what it says of positions.
use Rattle.std.specs.Prelude.{if◌then◌else◌}
use Prim.Native.Nat.{ℕ, zero, suc, ◌+◌, ◌≤◌, ◌<◌, min, max}
use mathlib.Core.Path.{◌≡◌, refl, sym, ap, ap₂, ◌∙◌}
use mathlib.Core.Bool.{Bool, true, false}
use mathlib.Core.List.{List, [], ◌∷◌, map}
use native.Mathlib.Decide.{dec_le}
use native.Mathlib.Omega.{arith}
use lib.Dec.{leb}
use lib.ListN.{length, get_or, take, drop}
use borrow.Author.Tests.{leb-true, leb-false, le-leb, lt-leb}
use Rattle.base.specs.Texts.{same_text}
use Rattle.base.proofs.Tests.{by_test}
use Rattle.suits.proofs.Rows.{row_step, rows_ended}
use Rattle.keyed.specs.Notes.{Listed}
use Rattle.differ.specs.Seen.{id_of}
use Rattle.differ.specs.Differences.{same_given, id_at}
use Rattle.differ.specs.Steps.{IdIn, common_ids}

-- ---- the loop

common_none : (a : List (List ℕ)) → common_ids a [] ≡ 0
unfolding common_ids
common_none [] = refl
common_none (s ∷ a) = refl

pub record Sharing (line₁ : List ℕ) (e₁ : List (List ℕ)) (n₁ : ℕ) (line₂ : List ℕ) (e₂ : List (List ℕ)) (n₂ i : ℕ) : Type 0 where
  pub inside₁ : i ≤ n₁
  pub inside₂ : i ≤ n₂
  pub same : common_ids (map (id_of line₁) (take n₁ e₁)) (map (id_of line₂) (take n₂ e₂)) ≡ i + common_ids (map (id_of line₁) (drop i (take n₁ e₁))) (map (id_of line₂) (drop i (take n₂ e₂)))

module _ (line₁ : List ℕ) (e₁ : List (List ℕ)) (n₁ : ℕ) (line₂ : List ℕ) (e₂ : List (List ℕ)) (n₂ : ℕ) where
  abbrev ids₁ : ℕ → List (List ℕ)
  ids₁ i = map (id_of line₁) (drop i (take n₁ e₁))

  abbrev ids₂ : ℕ → List (List ℕ)
  ids₂ i = map (id_of line₂) (drop i (take n₂ e₂))

  pub sharing_none : Sharing line₁ e₁ n₁ line₂ e₂ n₂ 0
  sharing_none = record { inside₁ = omega arith; inside₂ = omega arith; same = omega arith }

  module _ (a : Listed line₁ e₁ n₁) (b : Listed line₂ e₂ n₂) (i : ℕ) (w : Sharing line₁ e₁ n₁ line₂ e₂ n₂ i) where
    pub sharing_end : n₁ ≤ i → i ≡ common_ids (map (id_of line₁) (take n₁ e₁)) (map (id_of line₂) (take n₂ e₂))
    unfolding common_ids
    sharing_end h =
        let z : common_ids (ids₁ i) (ids₂ i) ≡ 0 = ap (λ (l : List (List ℕ)). common_ids (map (id_of line₁) l) (ids₂ i)) (rows_ended e₁ n₁ a.given i h) in
        omega (arith, w.same)

    module _ (h : i < n₁) where
      pub sharing_short : n₂ ≤ i → i ≡ common_ids (map (id_of line₁) (take n₁ e₁)) (map (id_of line₂) (take n₂ e₂))
      sharing_short g =
          let z : common_ids (ids₁ i) (ids₂ i) ≡ 0 = ap (λ (l : List (List ℕ)). common_ids (ids₁ i) (map (id_of line₂) l)) (rows_ended e₂ n₂ b.given i g) ∙ common_none (ids₁ i) in
          omega (arith, w.same)

      pub sharing_id₁ : IdIn line₁ e₁ i
      sharing_id₁ = record { given = omega (arith, a.given); inside = a.inside i h }

      module _ (g : i < n₂) where
        pub sharing_id₂ : IdIn line₂ e₂ i
        sharing_id₂ = record { given = omega (arith, b.given); inside = b.inside i g }

        step : common_ids (ids₁ i) (ids₂ i) ≡ (if same_text (id_of line₁ (get_or e₁ i [])) (id_of line₂ (get_or e₂ i [])) then suc (common_ids (ids₁ (i + 1)) (ids₂ (i + 1))) else 0)
        unfolding common_ids
        step = ap₂ (λ (x y : List (List ℕ)). common_ids (map (id_of line₁) x) (map (id_of line₂) y)) (row_step e₁ n₁ a.given i [] h) (row_step e₂ n₂ b.given i [] g)

        module _ (t : Bool) (et : t ≡ same_text (id_of line₁ (get_or e₁ i [])) (id_of line₂ (get_or e₂ i []))) where
          pub sharing_off : t ≡ false → i ≡ common_ids (map (id_of line₁) (take n₁ e₁)) (map (id_of line₂) (take n₂ e₂))
          sharing_off q =
              let f : same_text (id_of line₁ (get_or e₁ i [])) (id_of line₂ (get_or e₂ i [])) ≡ false = sym et ∙ q in
              let z : common_ids (ids₁ i) (ids₂ i) ≡ 0 = step ∙ ap (λ (x : Bool). if x then suc (common_ids (ids₁ (i + 1)) (ids₂ (i + 1))) else 0) f in
              omega (arith, w.same)

          pub sharing_on : t ≡ true → Sharing line₁ e₁ n₁ line₂ e₂ n₂ (i + 1)
          sharing_on q =
              let f : same_text (id_of line₁ (get_or e₁ i [])) (id_of line₂ (get_or e₂ i [])) ≡ true = sym et ∙ q in
              let z : common_ids (ids₁ i) (ids₂ i) ≡ suc (common_ids (ids₁ (i + 1)) (ids₂ (i + 1))) = step ∙ ap (λ (x : Bool). if x then suc (common_ids (ids₁ (i + 1)) (ids₂ (i + 1))) else 0) f in
              record { inside₁ = omega arith; inside₂ = omega arith; same = omega (arith, w.same) }

    -- the shorter list has ended
    pub sharing_done : (n : ℕ) → n ≡ min n₁ n₂ → n ≤ i → n ≡ common_ids (map (id_of line₁) (take n₁ e₁)) (map (id_of line₂) (take n₂ e₂))
    sharing_done n e h = go (dec_le n₁ i)
      where
        here : n ≡ i
        here = omega (arith, w.inside₁, w.inside₂)

        go : Dec (n₁ ≤ i) → n ≡ common_ids (map (id_of line₁) (take n₁ e₁)) (map (id_of line₂) (take n₂ e₂))
        go (yes g) = here ∙ sharing_end g
        go (no g) = here ∙ sharing_short (omega arith) (omega arith)

-- ---- positions

pub common_le : (a b : List (List ℕ)) → (common_ids a b ≤ length a) × (common_ids a b ≤ length b)
unfolding common_ids
common_le [] b = (omega arith, omega arith)
common_le (s ∷ a) [] = (omega arith, omega arith)
common_le (s ∷ a) (t ∷ b) =
    by_test (λ (x : Bool). ((if x then suc (common_ids a b) else 0) ≤ suc (length a)) × ((if x then suc (common_ids a b) else 0) ≤ suc (length b))) (same_text s t)
    (λ q. let l = common_le a b in (omega (arith, l.0), omega (arith, l.1))) (λ q. (omega arith, omega arith))

lt_if : (x : Bool) (c j : ℕ) → j < (if x then suc c else 0) → (x ≡ true) × (j ≤ c)
lt_if true c j h = (refl, omega arith)
lt_if false c j h = absurd (omega arith)

-- before it the ids are the same
pub same_before : (a b : List (List ℕ)) (j : ℕ) → j < common_ids a b → same_given (id_at a j) (id_at b j) ≡ true
unfolding common_ids
same_before [] b j h = absurd (omega arith)
same_before (s ∷ a) [] j h = absurd (omega arith)
same_before (s ∷ a) (t ∷ b) zero h = (lt_if (same_text s t) (common_ids a b) 0 h).0
same_before (s ∷ a) (t ∷ b) (suc j) h = let l = (lt_if (same_text s t) (common_ids a b) (suc j) h).1 in same_before a b j (omega arith)

abbrev pub longer : ℕ → ℕ → ℕ
longer m n = if leb m n then n else m

pub longer_is : (m n r : ℕ) → r ≡ max m n → r ≡ longer m n
longer_is m n r e = go (dec_le m n)
  where
    go : Dec (m ≤ n) → r ≡ longer m n
    go (yes h) = rw (le-leb m n h) (omega arith)
    go (no h) = rw (lt-leb m n (omega arith)) (omega arith)

longer_suc : (m n : ℕ) → longer (suc m) (suc n) ≡ suc (longer m n)
longer_suc m n =
    by_test (λ (x : Bool). leb m n ≡ x → longer (suc m) (suc n) ≡ suc (if x then n else m)) (leb m n)
    (λ q p. ap (λ (y : Bool). if y then suc n else suc m) (le-leb (suc m) (suc n) (omega (arith, leb-true m n p))))
    (λ q p. ap (λ (y : Bool). if y then suc n else suc m) (lt-leb (suc m) (suc n) (omega (arith, leb-false m n p)))) refl

-- there they are not, where one of both has that position
pub other_there : (a b : List (List ℕ)) → common_ids a b < longer (length a) (length b) → same_given (id_at a (common_ids a b)) (id_at b (common_ids a b)) ≡ false
unfolding common_ids
other_there [] [] h = absurd (omega arith)
other_there [] (t ∷ b) h = refl
other_there (s ∷ a) [] h = refl
other_there (s ∷ a) (t ∷ b) h =
    by_test
    (λ (x : Bool). same_text s t ≡ x → (if x then suc (common_ids a b) else 0) < longer (suc (length a)) (suc (length b))
    → same_given (id_at (s ∷ a) (if x then suc (common_ids a b) else 0)) (id_at (t ∷ b) (if x then suc (common_ids a b) else 0)) ≡ false)
    (same_text s t) (λ q p l. other_there a b (omega (arith, longer_suc (length a) (length b)))) (λ q p l. p) refl h
