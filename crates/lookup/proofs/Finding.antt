-- The walk over the parameters: what may be asked of an entry, and what is found.
use Rattle.std.specs.Prelude.{if◌then◌else◌}
use Prim.Native.Nat.{ℕ, ◌+◌, ◌≤◌, ◌<◌}
use mathlib.Core.Path.{◌≡◌, sym, ap, ◌∙◌}
use mathlib.Core.Bool.{Bool, true, false, ◌&&◌}
use mathlib.Core.List.{List, [], ◌∷◌}
use native.Mathlib.Omega.{arith}
use lib.ListN.{length, get_or, take, drop}
use Rattle.std.proofs.lemmas.List.{get_or-take, length-take}
use Rattle.base.specs.Texts.{text_at, same_text}
use Rattle.suits.specs.Suits.{tables_suit}
use Rattle.suits.proofs.Rows.{row_step, rows_ended}
use Rattle.suits.proofs.Suited.{elements_fit_lem, params_fit_lem, id_suited, param_suited}
use Rattle.lookup.specs.Lookup.{Found, id_text, found}
use Rattle.record.specs.declared.Param.{Param}
use Rattle.record.specs.Params.{row_of, rows, blank}
use Rattle.record.proofs.Params.{rows_length, rows_get}

-- of element `last`, where there is one, it is known whether it has the id
pub record Known (line : List ℕ) (elements : List (List ℕ)) (id : List ℕ) (e last : ℕ) (same : Bool) : Type 0 where
  pub known : last < e → same ≡ same_text (id_text line elements last) id

module _ (line : List ℕ) (elements : List (List ℕ)) (id : List ℕ) where
  pub known_none : (e : ℕ) → Known line elements id e e false
  known_none e = record { known = λ (l : e < e). absurd (omega arith) }

  pub known_now : (e k : ℕ) (same : Bool) → same ≡ same_text (id_text line elements k) id → Known line elements id e k same
  known_now e k same s = record { known = λ l. s }

  pub known_same : {e last k : ℕ} {same : Bool} → Known line elements id e last same → k < e → k ≡ last → same ≡ same_text (id_text line elements k) id
  known_same w l q = rw q (w.known (rw q at l))

-- what is known of an entry of tables that suit
pub record Entry (line : List ℕ) (elements : List (List ℕ)) (e : ℕ) (q : Param) : Type 0 where
  pub number_below : q.element < e
  pub number_in : q.element < length elements
  pub id_in : get_or (get_or elements q.element []) 0 0 + get_or (get_or elements q.element []) 1 0 ≤ length line
  pub name_in : q.name_start + q.name_len ≤ length line
  pub value_in : q.value_start + q.value_len ≤ length line

module _ (line : List ℕ) (e p : ℕ) (elements : List (List ℕ)) (ps : List Param) (s : tables_suit line e p elements (rows ps) ≡ true) where
  pub counted_in : p ≤ length ps
  counted_in = omega (arith, params_fit_lem line e p elements (rows ps) s, rows_length ps)

  module _ (i : ℕ) (inside : i < length (take p ps)) where
    abbrev q : Param
    q = get_or (take p ps) i blank

    h : i < p
    h = omega (arith, length-take p ps)

    row_is : row_of q ≡ get_or (rows ps) i []
    row_is = ap row_of (get_or-take p ps i blank h) ∙ rows_get ps i (omega (arith, counted_in, h))

    at : (j : ℕ) → get_or (row_of q) j 0 ≡ get_or (get_or (rows ps) i []) j 0
    at j = ap (λ (l : List ℕ). get_or l j 0) row_is

    pub entry : Entry line elements e q
    entry =
        let u = param_suited line e p elements (rows ps) s i h in
        let b : q.element < e = rw (at 0) u.below in
        record {
          number_below = b;
          number_in = omega (arith, elements_fit_lem line e p elements (rows ps) s);
          id_in = id_suited line e p elements (rows ps) s q.element b;
          name_in = rw (at 1, at 2) u.name_in;
          value_in = rw (at 3, at 4) u.value_in;
        }

    module _ (id name : List ℕ) (inv : found line elements id name (take p (rows ps)) ≡ found line elements id name (drop i (take p (rows ps)))) where
      find_row : found line elements id name (take p (rows ps))
          ≡ (if same_text (id_text line elements q.element) id && same_text (text_at line q.name_start q.name_len) name then Found.value (text_at line q.value_start q.value_len)
          else found line elements id name (drop (i + 1) (take p (rows ps))))
      unfolding found
      find_row =
          inv
          ∙ ap (found line elements id name) (row_step (rows ps) p (params_fit_lem line e p elements (rows ps) s) i [] h ∙ ap (λ (l : List ℕ). l ∷ drop (i + 1) (take p (rows ps))) (sym row_is))

      module _ (same : Bool) (es : same ≡ same_text (id_text line elements q.element) id) where
        pub find_other : same ≡ false → found line elements id name (take p (rows ps)) ≡ found line elements id name (drop (i + 1) (take p (rows ps)))
        find_other k = find_row ∙ rw (← es, k)

        module _ (t : Bool) (et : t ≡ same_text (text_at line q.name_start q.name_len) name) where
          pub find_on : same ≡ true → t ≡ false → found line elements id name (take p (rows ps)) ≡ found line elements id name (drop (i + 1) (take p (rows ps)))
          find_on k j = find_row ∙ rw (← es, k, ← et, j)

          pub find_hit : same ≡ true → t ≡ true → (v : List ℕ) → v ≡ text_at line q.value_start q.value_len → found line elements id name (take p (rows ps)) ≡ Found.value v
          find_hit k j v ev = find_row ∙ rw (← es, k, ← et, j, ev)

  pub find_none : (id name : List ℕ) (i : ℕ) → found line elements id name (take p (rows ps)) ≡ found line elements id name (drop i (take p (rows ps))) → p ≤ i
      → found line elements id name (take p (rows ps)) ≡ Found.nothing
  unfolding found
  find_none id name i inv h = inv ∙ ap (found line elements id name) (rows_ended (rows ps) p (params_fit_lem line e p elements (rows ps) s) i h)
