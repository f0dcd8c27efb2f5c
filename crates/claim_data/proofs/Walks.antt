-- One entry after another.
use Rattle.std.specs.Prelude.{Option, Some, None}
use Prim.Native.Nat.{ℕ, zero, suc, ◌+◌, ◌-◌, ◌≤◌, ◌<◌}
use mathlib.Core.Path.{◌≡◌, refl, sym, ap, ◌∙◌}
use mathlib.Core.Bool.{true}
use mathlib.Core.List.{List, [], ◌∷◌}
use native.Mathlib.Omega.{arith}
use native.Mathlib.Numerals.{add-one}
use lib.ListN.{length, get_or, take, drop}
use lib.Seq.{drop-cons}
use borrow.Author.Tests.{eq-eqb, ne_eqb, leb-true}
use Rattle.base.proofs.Tests.{both}
use Rattle.record.specs.declared.Param.{Param}
use Rattle.record.specs.Params.{row_of}
use Rattle.suits.specs.Suits.{place_suits, elements_suit}
use Rattle.claims.specs.Claims.{pair_of}
use Rattle.claims.specs.Holds.{on_next, byte_next, param_next, id_next}
use Rattle.claim_data.specs.Walks.{first_next, open_next, opens_next, turn_next, last_next}

-- an id's place
pub id_in_lem : (line : List ℕ) (ids : List (List ℕ)) → elements_suit line ids ≡ true → (k : ℕ) → k < length ids → get_or (get_or ids k []) 0 0 + get_or (get_or ids k []) 1 0 ≤ length line
unfolding elements_suit
id_in_lem line [] h k l = absurd (omega arith)
id_in_lem line (row ∷ rows) h zero l = leb-true _ _ (both _ _ h).0
id_in_lem line (row ∷ rows) h (suc k) l = id_in_lem line rows (both (place_suits line (get_or row 0 0) (get_or row 1 0)) _ h).1 k (omega arith)

module _ (line : List ℕ) (at : ℕ) where
  -- ---- the first

  module _ (ids : List (List ℕ)) where
    pub first_none : length ids ≡ 0 → Some at ≡ first_next line at ids
    unfolding first_next
    first_none e = rw (eq-eqb (length ids) 0 e)

    module _ (n : length ids ≡ 0 → ⊥) where
      pub first_some : (r : Option ℕ) → r ≡ id_next line at (pair_of (get_or ids 0 [])) → r ≡ first_next line at ids
      unfolding first_next
      first_some r e = e ∙ rw (ne_eqb (length ids) 0 n)

      pub first_in : elements_suit line ids ≡ true → get_or (get_or ids 0 []) 0 0 + get_or (get_or ids 0 []) 1 0 ≤ length line
      first_in h = id_in_lem line ids h 0 (pos (length ids) n)
        where
          pos : (m : ℕ) → (m ≡ 0 → ⊥) → 0 < m
          pos zero z = absurd (z refl)
          pos (suc m) z = omega arith

  -- ---- the next

  module _ (row : List ℕ) (y : Option ℕ) (ey : y ≡ byte_next line at 93) where
    pub open_off : y ≡ None → None ≡ open_next line at row
    unfolding open_next
    open_off h = rw (← ey, h)

    pub open_on : (b : ℕ) → y ≡ Some b → (r : Option ℕ) → r ≡ id_next line b (pair_of row) → r ≡ open_next line at row
    unfolding open_next
    open_on b h r er = er ∙ rw (← ey, h)

pub ruleset first_laws = (first_none, first_some, first_in)

pub ruleset open_laws = (open_off, open_on)

-- ---- up to a parameter's own: element j is open

rows_step : (ids : List (List ℕ)) (last j : ℕ) → j < last → last < length ids → take (last - j) (drop (j + 1) ids) ≡ get_or ids (j + 1) [] ∷ take (last - (j + 1)) (drop (j + 1 + 1) ids)
rows_step ids last j h l =
    let n : last - j ≡ suc (last - (j + 1)) = omega arith in
    let d : drop (j + 1) ids ≡ get_or ids (j + 1) [] ∷ drop (j + 1 + 1) ids = drop-cons ids (j + 1) [] (omega arith) ∙ ap (λ (k : ℕ). get_or ids (j + 1) [] ∷ drop k ids) (sym (add-one (j + 1))) in
    rw (n, d)

pub record Opening (line : List ℕ) (at : ℕ) (ids : List (List ℕ)) (k last pos j : ℕ) : Type 0 where
  pub not_past : j ≤ last
  pub whole : opens_next line at (take (last - k) (drop (k + 1) ids)) ≡ opens_next line pos (take (last - j) (drop (j + 1) ids))

pub opens_start : (line : List ℕ) (at : ℕ) (ids : List (List ℕ)) (k last : ℕ) → k ≤ last → Opening line at ids k last at k
opens_start line at ids k last h = record { not_past = h; whole = refl }

module _ (line : List ℕ) (at : ℕ) (ids : List (List ℕ)) (k last pos j : ℕ) (w : Opening line at ids k last pos j) where
  pub opens_end : last ≤ j → Some pos ≡ opens_next line at (take (last - k) (drop (k + 1) ids))
  unfolding opens_next
  opens_end h = let n : last - j ≡ 0 = omega arith in sym (w.whole ∙ ap (λ (m : ℕ). opens_next line pos (take m (drop (j + 1) ids))) n)

  module _ (h : j < last) (l : last < length ids) where
    pub opens_in : elements_suit line ids ≡ true → get_or (get_or ids (j + 1) []) 0 0 + get_or (get_or ids (j + 1) []) 1 0 ≤ length line
    opens_in s = id_in_lem line ids s (j + 1) (omega arith)

    module _ (y : Option ℕ) (ey : y ≡ open_next line pos (get_or ids (j + 1) [])) where
      on : opens_next line at (take (last - k) (drop (k + 1) ids)) ≡ on_next y λ b. opens_next line b (take (last - (j + 1)) (drop (j + 1 + 1) ids))
      unfolding opens_next
      on = w.whole ∙ ap (opens_next line pos) (rows_step ids last j h l) ∙ rw ey

      pub opens_off : y ≡ None → None ≡ opens_next line at (take (last - k) (drop (k + 1) ids))
      opens_off q = sym (on ∙ rw q)

      pub opens_on : (b : ℕ) → y ≡ Some b → Opening line at ids k last b (j + 1)
      opens_on b q = record { not_past = omega arith; whole = on ∙ rw q }

pub ruleset opens_laws = (opens_start, opens_end, opens_in, opens_off, opens_on)

-- ---- a parameter, and what is behind the last

module _ (line : List ℕ) (at : ℕ) (ids : List (List ℕ)) (k : ℕ) where
  module _ (p : Param) (y : Option ℕ) (ey : y ≡ opens_next line at (take (p.element - k) (drop (k + 1) ids))) where
    pub turn_off : y ≡ None → None ≡ turn_next line at ids k (row_of p)
    unfolding turn_next
    turn_off h = rw (← ey, h)

    pub turn_on : (b : ℕ) → y ≡ Some b → (r : Option ℕ) → r ≡ param_next line p.element b (row_of p) → r ≡ turn_next line at ids k (row_of p)
    unfolding turn_next
    turn_on b h r er = er ∙ rw (← ey, h)

  pub last_none : length ids ≡ 0 → (r : Option ℕ) → r ≡ byte_next line at 45 → r ≡ last_next line at ids k
  unfolding last_next
  last_none e r er = er ∙ rw (eq-eqb (length ids) 0 e)

  module _ (n : length ids ≡ 0 → ⊥) (y : Option ℕ) (ey : y ≡ opens_next line at (take (length ids - 1 - k) (drop (k + 1) ids))) where
    pub last_off : y ≡ None → None ≡ last_next line at ids k
    unfolding last_next
    last_off h = rw (ne_eqb (length ids) 0 n, ← ey, h)

    pub last_on : (b : ℕ) → y ≡ Some b → (r : Option ℕ) → r ≡ byte_next line b 93 → r ≡ last_next line at ids k
    unfolding last_next
    last_on b h r er = er ∙ rw (ne_eqb (length ids) 0 n, ← ey, h)

pub last_below : (n : ℕ) → (n ≡ 0 → ⊥) → n - 1 < n
last_below zero z = absurd (z refl)
last_below (suc n) z = omega arith

pub last_sub : (n : ℕ) → (n ≡ 0 → ⊥) → 1 ≤ n
last_sub zero z = absurd (z refl)
last_sub (suc n) z = omega arith

pub ruleset turn_laws = (turn_off, turn_on)

pub ruleset last_laws = (last_none, last_off, last_on, last_below, last_sub)
