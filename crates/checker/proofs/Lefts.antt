-- What is left of the structured data, in a walk over the parameters.
use Rattle.std.specs.Prelude.{if◌then◌else◌, Option, Some, None}
use Prim.Native.Nat.{ℕ, zero, suc, ◌+◌, ◌-◌, ◌≤◌, ◌<◌}
use mathlib.Core.Path.{◌≡◌, refl, sym, ap, ◌∙◌}
use mathlib.Core.Bool.{false}
use mathlib.Core.List.{List, [], ◌∷◌}
use native.Mathlib.Decide.{dec_le}
use native.Mathlib.Omega.{arith}
use native.Mathlib.Numerals.{add-one}
use lib.Dec.{eqb}
use lib.ListN.{length, get_or, take, drop, drop_of_length-le}
use lib.Seq.{drop-cons}
use borrow.Author.Tests.{eq-eqb, ne_eqb}
use Rattle.claims.specs.Claims.{pair_of, pairs}
use Rattle.claims.specs.Holds.{on_next, byte_next, param_next, params_next, id_next, nothing_left, front, rest, elements_next, data_next}
use Rattle.claim_data.specs.Walks.{first_next, open_next, opens_next, turn_next, last_next}

pub next_assoc : (x : Option ℕ) (f g : ℕ → Option ℕ) → on_next (on_next x f) g ≡ on_next x (λ a. on_next (f a) g)
next_assoc None f g = refl
next_assoc (Some n) f g = refl

pub next_same : (x : Option ℕ) (f g : ℕ → Option ℕ) → ((a : ℕ) → f a ≡ g a) → on_next x f ≡ on_next x g
next_same None f g h = refl
next_same (Some n) f g h = h n

next_id : (x : Option ℕ) → on_next x Some ≡ x
next_id None = refl
next_id (Some n) = refl

-- at `at`, where element k is open and the rows are left
unfoldable pub left_next : List ℕ → List (List ℕ) → ℕ → ℕ → List (List ℕ) → Option ℕ
left_next line ids k at rows =
    if eqb (length ids) 0 then on_next (nothing_left rows at) (λ a. byte_next line a 45)
    else on_next (params_next line k at (front k rows)) λ b. on_next (byte_next line b 93) λ c. elements_next line (k + 1) c (pairs (drop (k + 1) ids)) (rest k rows)

module _ (line : List ℕ) where
  -- at the start
  pub left_first : (ids rows : List (List ℕ)) (at : ℕ) → data_next line at (pairs ids) rows ≡ on_next (first_next line at ids) λ b. left_next line ids 0 b rows
  unfolding first_next left_next
  left_first [] rows at = refl
  left_first (id ∷ ids) rows at =
      let n : eqb (suc (length ids)) 0 ≡ false = ne_eqb (suc (length ids)) 0 (λ e. omega arith) in
      rw n

  module _ (ids : List (List ℕ)) where
    some_left : (k at : ℕ) (rows : List (List ℕ)) → k < length ids
        → left_next line ids k at rows ≡ on_next (params_next line k at (front k rows)) λ b. on_next (byte_next line b 93) λ c. elements_next line (k + 1) c (pairs (drop (k + 1) ids)) (rest k rows)
    unfolding left_next
    some_left k at rows h = rw (ne_eqb (length ids) 0 (λ e. omega arith))

    -- no row is of an element before j
    record Late (j : ℕ) (rows : List (List ℕ)) : Type 0 where
      pub none_front : (i : ℕ) → i < j → front i rows ≡ []
      pub all_rest : (i : ℕ) → i < j → rest i rows ≡ rows

    late_none : (j : ℕ) → Late j []
    late_none j = record { none_front = λ i l. refl; all_rest = λ i l. refl }

    late_row : (row : List ℕ) (rows : List (List ℕ)) → Late (get_or row 0 0) (row ∷ rows)
    late_row row rows =
        record {
          none_front = λ i l. rw (ne_eqb (get_or row 0 0) i (λ e. omega arith));
          all_rest = λ i l. rw (ne_eqb (get_or row 0 0) i (λ e. omega arith));
        }

    drop_next : (k : ℕ) → k + 1 < length ids → drop (k + 1) ids ≡ get_or ids (k + 1) [] ∷ drop (k + 1 + 1) ids
    drop_next k h = drop-cons ids (k + 1) [] h ∙ ap (λ (n : ℕ). get_or ids (k + 1) [] ∷ drop n ids) (sym (add-one (k + 1)))

    -- the next element is opened
    left_open : (k at : ℕ) (rows : List (List ℕ)) → k + 1 < length ids → front k rows ≡ [] → rest k rows ≡ rows
        → left_next line ids k at rows ≡ on_next (open_next line at (get_or ids (k + 1) [])) λ b. left_next line ids (k + 1) b rows
    unfolding open_next
    left_open k at rows h f r =
        some_left k at rows (omega arith) ∙ rw (f, r, drop_next k h)
        (sym (next_assoc (byte_next line at 93) (λ b. id_next line b (pair_of (get_or ids (k + 1) []))) (λ b. left_next line ids (k + 1) b rows)
        ∙ next_same (byte_next line at 93) _ _ (λ c. next_same (id_next line c (pair_of (get_or ids (k + 1) []))) _ _ (λ a. some_left (k + 1) a rows h))))

    -- and each up to element j
    left_opens : (m k j at : ℕ) (rows : List (List ℕ)) → k + m ≡ j → j < length ids → Late j rows
        → left_next line ids k at rows ≡ on_next (opens_next line at (take m (drop (k + 1) ids))) λ b. left_next line ids j b rows
    unfolding opens_next
    left_opens zero k j at rows e l w = let q : k ≡ j = omega arith in ap (λ (i : ℕ). left_next line ids i at rows) q
    left_opens (suc m) k j at rows e l w =
        left_open k at rows (omega arith) (w.none_front k (omega arith)) (w.all_rest k (omega arith))
        ∙ rw (drop_next k (omega arith))
        (sym (next_assoc (open_next line at (get_or ids (k + 1) [])) (λ b. opens_next line b (take m (drop (k + 1 + 1) ids))) (λ b. left_next line ids j b rows)
        ∙ next_same (open_next line at (get_or ids (k + 1) [])) _ _ (λ b. sym (left_opens m (k + 1) j b rows (omega arith) l w))))

    -- a row of the element that is open
    left_row : (row : List ℕ) (rows : List (List ℕ)) (at : ℕ) → get_or row 0 0 < length ids
        → left_next line ids (get_or row 0 0) at (row ∷ rows) ≡ on_next (param_next line (get_or row 0 0) at row) λ b. left_next line ids (get_or row 0 0) b rows
    left_row row rows at h =
        let j = get_or row 0 0 in
        some_left j at (row ∷ rows) h ∙ rw (eq-eqb j j refl)
        (next_assoc (param_next line j at row) (λ b. params_next line j b (front j rows)) _
        ∙ next_same (param_next line j at row) _ _ (λ b. sym (some_left j b rows h)))

    -- ---- a turn, and the end

    pub left_turn : (k at : ℕ) (row : List ℕ) (rows : List (List ℕ)) → k ≤ get_or row 0 0 → get_or row 0 0 < length ids
        → left_next line ids k at (row ∷ rows) ≡ on_next (turn_next line at ids k row) λ b. left_next line ids (get_or row 0 0) b rows
    unfolding turn_next
    left_turn k at row rows l h =
        let j = get_or row 0 0 in
        left_opens (j - k) k j at (row ∷ rows) (omega arith) h (late_row row rows)
        ∙ next_same (opens_next line at (take (j - k) (drop (k + 1) ids))) _ _ (λ b. left_row row rows b h)
        ∙ sym (next_assoc (opens_next line at (take (j - k) (drop (k + 1) ids))) (λ b. param_next line j b row) (λ b. left_next line ids j b rows))

    left_last : (at : ℕ) → 1 ≤ length ids → left_next line ids (length ids - 1) at [] ≡ byte_next line at 93
    left_last at h =
        let d : drop (length ids - 1 + 1) ids ≡ [] = drop_of_length-le ids {i = length ids - 1 + 1} (omega arith) in
        some_left (length ids - 1) at [] (omega arith) ∙ rw d (next_id (byte_next line at 93))

    left_none : (k at : ℕ) → length ids ≡ 0 → left_next line ids k at [] ≡ last_next line at ids k
    unfolding left_next last_next
    left_none k at e = rw (eq-eqb (length ids) 0 e)

    left_some : (k at : ℕ) → 1 ≤ length ids → k ≤ length ids - 1 → left_next line ids k at [] ≡ last_next line at ids k
    unfolding last_next
    left_some k at l h =
        left_opens (length ids - 1 - k) k (length ids - 1) at [] (omega arith) (omega arith) (late_none (length ids - 1))
        ∙ next_same (opens_next line at (take (length ids - 1 - k) (drop (k + 1) ids))) _ _ (λ b. left_last b l)
        ∙ rw (ne_eqb (length ids) 0 (λ e. omega arith))

    pub left_end : (k at : ℕ) → k ≤ length ids - 1 → left_next line ids k at [] ≡ last_next line at ids k
    left_end k at h = go (dec_le 1 (length ids))
      where
        go : Dec (1 ≤ length ids) → left_next line ids k at [] ≡ last_next line at ids k
        go (yes l) = left_some k at l h
        go (no l) = left_none k at (omega arith)
