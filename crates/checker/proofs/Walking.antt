-- The check in one walk over the parameters.
use Rattle.std.specs.Prelude.{Option, Some, None}
use Prim.Native.Nat.{ℕ, zero, suc, ◌+◌, ◌-◌, ◌*◌, ◌≤◌, ◌<◌}
use mathlib.Core.Path.{◌≡◌, refl, sym, ap, ◌∙◌}
use mathlib.Core.Bool.{true, false, ◌&&◌}
use mathlib.Core.List.{List, [], ◌∷◌}
use native.Mathlib.Omega.{arith}
use lib.Dec.{leb}
use lib.ListN.{length, get_or, take, drop, length-map}
use lib.Seq.{length-take-le}
use borrow.Author.Tests.{leb-true, ltb-true}
use Rattle.base.specs.Texts.{text_at, all_different}
use Rattle.base.proofs.Tests.{both}
use Rattle.record.specs.Limits.{line_limit}
use Rattle.record.specs.declared.Param.{Param}
use Rattle.record.specs.declared.StrictRecord.{StrictRecord}
use Rattle.record.specs.Params.{row_of, rows, blank}
use Rattle.grammar.specs.Line.{Element, Each, ElementOk, each_then, element_then, data_then}
use Rattle.grammar.specs.Reading.{element_rows}
use Rattle.grammar.proofs.Data.{listed_reads}
use Rattle.suits.specs.Suits.{place_suits, record_suits, elements_suit, param_suits, params_suit, tables_suit, suits}
use Rattle.suits.proofs.Rows.{row_step, rows_ended}
use Rattle.suits.proofs.Suited.{record_in_lem}
use Rattle.claims.specs.Claims.{pair_of, pairs, claim_in}
use Rattle.claims.specs.Holds.{on_next, header_next, data_next, ids_at, message_holds, holds}
use Rattle.claims.proofs.Places.{here_as}
use Rattle.claims.proofs.Tests.{on_next_lem, here_fits}
use Rattle.claims.proofs.Rows.{data_step, element_size_lem}
use Rattle.claims.proofs.Told.{told_elements}
use Rattle.claim_data.specs.Walks.{first_next, turn_next, last_next}
use Rattle.claim_data.specs.Ids.{Ids}
use Rattle.claim_data.proofs.Walks.{id_in_lem}
use Rattle.checker.specs.Steps.{Comparing, data_end}
use Rattle.record.proofs.Params.{rows_length, rows_get}
use Rattle.std.proofs.lemmas.List.{get_or-take, length-take}
use Rattle.checker.proofs.Lefts.{next_assoc, next_same, left_next, left_first, left_turn, left_end}

-- ---- the ids of elements that were found

pairs_get : (rows : List (List ℕ)) (k : ℕ) → k < length rows → get_or (pairs rows) k [] ≡ pair_of (get_or rows k [])
pairs_get [] k l = absurd (omega arith)
pairs_get (row ∷ rows) zero l = refl
pairs_get (row ∷ rows) (suc k) l = pairs_get rows k (omega arith)

pairs_ids : (line : List ℕ) (rows : List (List ℕ)) → ids_at line (pairs rows) ≡ ids_at line rows
pairs_ids line [] = refl
pairs_ids line (row ∷ rows) = ap (λ (l : List (List ℕ)). text_at line (get_or row 0 0) (get_or row 1 0) ∷ l) (pairs_ids line rows)

names_small : (at : ℕ) (es : List Element) → Each ElementOk es → (k : ℕ) → k < length (element_rows at es) → get_or (get_or (element_rows at es) k []) 1 0 ≤ 32
names_small at [] ok k l = absurd (omega arith)
names_small at (e ∷ es) ok zero l = ok.0.id_ok.at_most
names_small at (e ∷ es) ok (suc k) l = names_small (at + length (element_then e [])) es ok.1 k (omega arith)

rows_many : (at : ℕ) (es : List Element) → length (element_rows at es) ≡ length es
rows_many at [] = refl
rows_many at (e ∷ es) = let i = rows_many (at + length (element_then e [])) es in omega arith

elements_long : (es : List Element) → Each ElementOk es → 3 * length es ≤ length (each_then element_then es [])
elements_long [] ok = omega arith
elements_long (e ∷ es) ok =
    omega (arith, elements_long es ok.1, element_size_lem e (each_then element_then es []), ok.0.id_ok.at_least)

data_long : (es : List Element) → Each ElementOk es → (3 * length es ≤ length (data_then es [])) × (1 ≤ length (data_then es []))
data_long [] ok = (omega arith, omega arith)
data_long (e ∷ es) ok = let l = elements_long (e ∷ es) ok in (l, omega arith)

found_ids : (line : List ℕ) (ids params : List (List ℕ)) (at b : ℕ) → length line ≤ line_limit → elements_suit line ids ≡ true → data_next line at (pairs ids) params ≡ Some b → Ids line ids
found_ids line ids params at b short s h =
    let d = data_step line at (pairs ids) params b h in
    let es = told_elements line 0 (pairs ids) params in
    let n : length (pairs ids) ≡ length ids = length-map ids pair_of in
    let m : length (element_rows at es) ≡ length (pairs ids) = ap length d.is_rows in
    let g = here_as (d.here (drop b line) (record { is = refl })) (listed_reads.plain es (drop b line) d.ok) in
    let (l, o) = data_long es d.ok in
    let f = here_fits line at (data_then es []) (drop b line) o g in
    record {
      short = short;
      few = omega (arith, rows_many at es);
      inside = λ k i. id_in_lem line ids s k i;
      names = λ k i.
          let q : get_or (element_rows at es) k [] ≡ pair_of (get_or ids k []) = ap (λ (rows : List (List ℕ)). get_or rows k []) d.is_rows ∙ pairs_get ids k i in
          let j : k < length (element_rows at es) = omega arith in
          rw q at (names_small at es d.ok k j);
    }

-- ---- the walk

module _ (line : List ℕ) (r : StrictRecord) (e p : ℕ) (elements : List (List ℕ)) (ps : List Param) where
  abbrev params : List (List ℕ)
  params = rows ps

  abbrev ids : List (List ℕ)
  ids = take e elements

  abbrev whole : Option ℕ
  whole = data_end line r e p elements params

  -- before parameter `i`, with element `element` open: what is left to check is what is left to say
  pub record Walking (i element at : ℕ) : Type 0 where
    pub opened : element ≤ e - 1
    pub suited : params_suit line e element (drop i (take p params)) ≡ true
    pub ahead : whole ≡ left_next line ids element at (drop i (take p params))

  module _ (c : Comparing line r e p elements params) where
    -- what the tables and the record are known to be
    pub record Facts : Type 0 where
      pub fields_suit : record_suits line r.common ≡ true
      pub elements_count : e ≤ length elements
      pub params_count : p ≤ length ps
      pub ids_suit : elements_suit line ids ≡ true
      pub entries_suit : params_suit line e 0 (take p params) ≡ true
      pub text_in : r.timestamp_text.start + r.timestamp_text.len ≤ length line
      pub message_in : r.common.message.start + r.common.message.len ≤ length line

    pub facts : Facts
    unfolding suits tables_suit
    facts =
        let x1 = leb e (length elements) in
        let x2 = leb p (length params) in
        let x3 = elements_suit line ids in
        let x4 = params_suit line e 0 (take p params) in
        let u1 = both (record_suits line r.common && (x1 && x2 && x3 && x4)) (place_suits line r.timestamp_text.start r.timestamp_text.len) c.fits in
        let u2 = both (record_suits line r.common) (x1 && x2 && x3 && x4) u1.0 in
        let u3 = both (x1 && x2 && x3) x4 u2.1 in
        let u4 = both (x1 && x2) x3 u3.0 in
        let u5 = both x1 x2 u4.0 in
        record {
          fields_suit = u2.0;
          elements_count = leb-true e (length elements) u5.0;
          params_count = rw rows_length at (leb-true p (length params) u5.1);
          ids_suit = u4.1;
          entries_suit = u3.1;
          text_in = leb-true _ _ u1.1;
          message_in = (record_in_lem line r.common u2.0).message_in;
        }

    counted : p ≤ length params
    counted = rw rows_length facts.params_count

    many : length ids ≡ e
    many = length-take-le e elements facts.elements_count

    from_start : whole ≡ on_next (on_next (header_next line r) λ a. first_next line a ids) λ b. left_next line ids 0 b (take p params)
    from_start =
        next_same (header_next line r) _ _ (λ a. left_first line ids (take p params) a)
        ∙ sym (next_assoc (header_next line r) (λ a. first_next line a ids) (λ b. left_next line ids 0 b (take p params)))

    module _ (x : Option ℕ) (ex : x ≡ header_next line r) where
      pub header_off : x ≡ None → None ≡ whole
      header_off h = sym (from_start ∙ rw (← ex, h))

      module _ (a : ℕ) (ha : x ≡ Some a) (y : Option ℕ) (ey : y ≡ first_next line a ids) where
        pub first_off : y ≡ None → None ≡ whole
        first_off h = sym (from_start ∙ rw (← ex, ha, ← ey, h))

        pub walk_starts : (b : ℕ) → y ≡ Some b → Walking 0 0 b
        walk_starts b h = record { opened = omega arith; suited = facts.entries_suit; ahead = from_start ∙ rw (← ex, ha, ← ey, h) }

    module _ (i element at : ℕ) (m : Walking i element at) where
      module _ (inside : i < length (take p ps)) where
        abbrev x : Param
        x = get_or (take p ps) i blank

        h : i < p
        h = omega (arith, length-take p ps)

        ex : row_of x ≡ get_or params i []
        ex = ap row_of (get_or-take p ps i blank h) ∙ rows_get ps i (omega (arith, h, facts.params_count))

        step : drop i (take p params) ≡ row_of x ∷ drop (i + 1) (take p params)
        step = row_step params p counted i [] h ∙ ap (λ (row : List ℕ). row ∷ drop (i + 1) (take p params)) (sym ex)

        suits_on : (param_suits line e element (row_of x) && params_suit line e x.element (drop (i + 1) (take p params))) ≡ true
        unfolding params_suit
        suits_on = rw step at m.suited

        -- what is known of the parameter
        pub record Turning : Type 0 where
          pub below : x.element < e
          pub element_in : x.element < length ids
          pub risen : element ≤ x.element
          pub name_in : x.name_start + x.name_len ≤ length line
          pub value_in : x.value_start + x.value_len ≤ length line

        pub turning : Turning
        turning =
            let u0 = both (param_suits line e element (row_of x)) _ suits_on in
            let u1 = both _ _ u0.0 in
            let u2 = both _ _ u1.0 in
            let u3 = both _ _ u2.0 in
            let l : x.element < e = ltb-true x.element e u3.1 in
            record { below = l; element_in = omega (arith, many, l); risen = leb-true element x.element u3.0; name_in = leb-true _ _ u2.1; value_in = leb-true _ _ u1.1 }

        module _ (y : Option ℕ) (ey : y ≡ turn_next line at ids element (row_of x)) where
          goes_on_lem : whole ≡ on_next y λ b. left_next line ids x.element b (drop (i + 1) (take p params))
          goes_on_lem =
              m.ahead ∙ ap (left_next line ids element at) step
              ∙ left_turn line ids element at (row_of x) (drop (i + 1) (take p params)) turning.risen turning.element_in ∙ rw ey

          pub turn_off : y ≡ None → None ≡ whole
          turn_off z = sym (goes_on_lem ∙ rw z)

          pub turn_on : (b : ℕ) → y ≡ Some b → Walking (i + 1) x.element b
          turn_on b z =
              record {
                opened = omega (arith, turning.below);
                suited = (both (param_suits line e element (row_of x)) _ suits_on).1;
                ahead = goes_on_lem ∙ rw z;
              }

      module _ (h : length (take p ps) ≤ i) where
        pub open_in : element ≤ length ids - 1
        open_in = omega (arith, many, m.opened)

        pub walk_ends : last_next line at ids element ≡ whole
        walk_ends =
            let j : p ≤ i = omega (arith, length-take p ps, facts.params_count) in
            sym (m.ahead ∙ ap (left_next line ids element at) (rows_ended params p counted i j) ∙ left_end line ids element at open_in)

    -- ---- what is behind the walk

    module _ (y : Option ℕ) (ey : y ≡ whole) where
      pub ends_off : y ≡ None → false ≡ holds line (claim_in r e p elements params)
      unfolding holds
      ends_off q = rw (← ey, q)

      module _ (b : ℕ) (q : y ≡ Some b) where
        pub ids_found : Ids line ids
        ids_found =
            let o = on_next_lem (header_next line r) (λ a. data_next line a (pairs ids) (take p params)) b (sym ey ∙ q) in
            found_ids line ids (take p params) o.to b c.short facts.ids_suit o.second

        pub ends_on : (all_different (ids_at line ids) && message_holds line b r.has_message r.common.message) ≡ holds line (claim_in r e p elements params)
        unfolding holds
        ends_on = rw (← ey, q) (ap (λ (l : List (List ℕ)). all_different l && message_holds line b r.has_message r.common.message) (sym (pairs_ids line ids)))
