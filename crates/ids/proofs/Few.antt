-- Ids compared with all behind them.
use Prim.Native.Nat.{ℕ, zero, suc, ◌+◌, ◌^◌, ◌≤◌, ◌<◌}
use mathlib.Core.Path.{◌≡◌, refl, sym, ap, ◌∙◌}
use mathlib.Core.Bool.{Bool, true, false}
use mathlib.Core.List.{List, [], ◌∷◌}
use native.Mathlib.Omega.{arith}
use native.Mathlib.Numerals.{add-one}
use lib.ListN.{length, get_or, drop, drop_of_length-le}
use lib.Seq.{drop-cons}
use borrow.Author.Tests.{leb-true}
use mir.Syntax.{w64}
use mir.Val.{Fits}
use Rattle.base.specs.Texts.{same_text, is_in, all_different}
use Rattle.base.proofs.Tests.{both}
use Rattle.base.proofs.Texts.{part_text_lem}
use Rattle.suits.specs.Suits.{place_suits, elements_suit}
use Rattle.ids.specs.Ids.{id_in, ids_in}

-- ---- the id at a row

id_inside : (text : List ℕ) (rows : List (List ℕ)) → elements_suit text rows ≡ true → (k : ℕ) → k < length rows
    → get_or (get_or rows k []) 0 0 + get_or (get_or rows k []) 1 0 ≤ length text
unfolding elements_suit
id_inside text [] s k h = absurd (omega arith)
id_inside text (row ∷ rows) s zero h = leb-true _ _ (both _ _ s).0
id_inside text (row ∷ rows) s (suc k) h = id_inside text rows (both (place_suits text (get_or row 0 0) (get_or row 1 0)) _ s).1 k (omega arith)

module _ (text : List ℕ) (rows : List (List ℕ)) (s : elements_suit text rows ≡ true) (k : ℕ) (h : k < length rows) where
  pub id_ends : get_or (get_or rows k []) 0 0 + get_or (get_or rows k []) 1 0 ≤ length text
  id_ends = id_inside text rows s k h

  pub id_sum : length text < 2 ^ 64 → Fits w64 (get_or (get_or rows k []) 0 0 + get_or (get_or rows k []) 1 0)
  id_sum l = record { fits = omega (arith, id_ends) }

pub ruleset id_laws = (id_ends, id_sum, part_text_lem)

-- ---- the ids from a row on

rows_step : (rows : List (List ℕ)) (k : ℕ) → k < length rows → drop k rows ≡ get_or rows k [] ∷ drop (k + 1) rows
rows_step rows k h = rw (add-one) (drop-cons rows k [] h)

module _ (text : List ℕ) (rows : List (List ℕ)) (k : ℕ) where
  pub ids_end : length rows ≤ k → ids_in text (drop k rows) ≡ []
  unfolding ids_in
  ids_end h = ap (ids_in text) (drop_of_length-le rows {i = k} h)

  pub ids_step : k < length rows → ids_in text (drop k rows) ≡ id_in text (get_or rows k []) ∷ ids_in text (drop (k + 1) rows)
  unfolding ids_in
  ids_step h = ap (ids_in text) (rows_step rows k h)

-- ---- one id behind another

pub behind_start : (text : List ℕ) (rows : List (List ℕ)) (k : ℕ)
    → is_in (id_in text (get_or rows k [])) (ids_in text (drop (k + 1) rows)) ≡ is_in (id_in text (get_or rows k [])) (ids_in text (drop (k + 1) rows))
behind_start text rows k = refl

module _ (text : List ℕ) (rows : List (List ℕ)) (k j : ℕ)
    (w : is_in (id_in text (get_or rows k [])) (ids_in text (drop (k + 1) rows)) ≡ is_in (id_in text (get_or rows k [])) (ids_in text (drop j rows))) where
  pub behind_end : length rows ≤ j → false ≡ is_in (id_in text (get_or rows k [])) (ids_in text (drop (k + 1) rows))
  behind_end h = sym (w ∙ ap (is_in (id_in text (get_or rows k []))) (ids_end text rows j h))

  module _ (h : j < length rows) (a b : List ℕ) (ea : a ≡ id_in text (get_or rows k [])) (eb : b ≡ id_in text (get_or rows j [])) (t : Bool) (et : t ≡ same_text a b) where
    e : t ≡ same_text (id_in text (get_or rows k [])) (id_in text (get_or rows j []))
    e = et ∙ rw (ea, eb)

    pub behind_found : t ≡ true → true ≡ is_in (id_in text (get_or rows k [])) (ids_in text (drop (k + 1) rows))
    behind_found q = sym (w ∙ rw (ids_step text rows j h, ← e, q))

    pub behind_on : t ≡ false → is_in (id_in text (get_or rows k [])) (ids_in text (drop (k + 1) rows)) ≡ is_in (id_in text (get_or rows k [])) (ids_in text (drop (j + 1) rows))
    behind_on q = w ∙ rw (ids_step text rows j h, ← e, q)

pub ruleset behind_laws = (behind_start, behind_end, behind_found, behind_on)

-- ---- each

pub few_start : (text : List ℕ) (rows : List (List ℕ)) → all_different (ids_in text rows) ≡ all_different (ids_in text (drop 0 rows))
few_start text rows = refl

module _ (text : List ℕ) (rows : List (List ℕ)) (k : ℕ) (w : all_different (ids_in text rows) ≡ all_different (ids_in text (drop k rows))) where
  pub few_end : length rows ≤ k → true ≡ all_different (ids_in text rows)
  few_end h = sym (w ∙ ap all_different (ids_end text rows k h))

  module _ (h : k < length rows) (t : Bool) (e : t ≡ is_in (id_in text (get_or rows k [])) (ids_in text (drop (k + 1) rows))) where
    pub few_found : t ≡ true → false ≡ all_different (ids_in text rows)
    few_found q = sym (w ∙ rw (ids_step text rows k h, ← e, q))

    pub few_on : t ≡ false → all_different (ids_in text rows) ≡ all_different (ids_in text (drop (k + 1) rows))
    few_on q = w ∙ rw (ids_step text rows k h, ← e, q)

pub ruleset few_laws = (few_start, few_end, few_found, few_on)
