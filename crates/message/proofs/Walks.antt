-- The walk over both tables: the elements opened one after another, and the parameters in between.
use Rattle.std.specs.Prelude.{if◌then◌else◌}
use Prim.Native.Nat.{ℕ, zero, suc, ◌+◌, ◌-◌, ◌≤◌, ◌<◌}
use mathlib.Core.Path.{◌≡◌, refl, sym, ap, ◌∙◌}
use mathlib.Core.Bool.{true}
use mathlib.Core.List.{List, [], ◌∷◌, ◌++◌, append_assoc}
use native.Mathlib.Decide.{dec_le}
use native.Mathlib.Omega.{arith}
use lib.Dec.{eqb}
use lib.ListN.{length, get_or, take, drop}
use lib.Seq.{take-length, length-take-le}
use borrow.Author.Tests.{le-leb, leb-true, ltb-true, eq-eqb, ne_eqb}
use Rattle.base.proofs.Tests.{both}
use Rattle.record.specs.declared.Param.{Param}
use Rattle.record.specs.Params.{row_of}
use Rattle.suits.specs.Suits.{elements_suit, param_suits, params_suit, tables_suit}
use Rattle.suits.proofs.Suited.{id_suited, ParamIn}
use Rattle.output.specs.Fits.{Fits}
use Rattle.output.specs.Output.{Wrote}
use Rattle.output.proofs.Pieces.{Starts, starts_named, named_fits, named}
use Rattle.message.specs.Message.{open_text, param_text, params_text, other_params, elements_text}
use Rattle.message.specs.Opens.{first_text, opens_text, close_text}
use Rattle.message.proofs.Rooms.{ids_step, ids_ended}

-- what `&elements[0..count]` lends
pub counted_is : (rows : List (List ℕ)) (n : ℕ) → take (n - 0) rows ≡ take n rows
counted_is rows n = let e : n - 0 ≡ n = omega arith in ap (λ (k : ℕ). take k rows) e

-- what suits of the rows
alone : (line : List ℕ) (ids : List (List ℕ)) → elements_suit line ids ≡ true → tables_suit line (length ids) 0 ids [] ≡ true
unfolding tables_suit params_suit
alone line ids h = rw (le-leb (length ids) (length ids) (omega arith), take-length ids, h)

id_in_lem : (line : List ℕ) (ids : List (List ℕ)) → elements_suit line ids ≡ true → (j : ℕ) → j < length ids
    → get_or (get_or ids j []) 0 0 + get_or (get_or ids j []) 1 0 ≤ length line
id_in_lem line ids h j l = id_suited line (length ids) 0 ids [] (alone line ids h) j l

module _ (line : List ℕ) (e low : ℕ) (row : List ℕ) (h : param_suits line e low row ≡ true) where
  param_in : ParamIn line e low row
  param_in =
      let value = both _ _ h in
      let name = both _ _ value.0 in
      let number = both _ _ name.0 in
      record {
        from = leb-true _ _ number.0;
        below = ltb-true _ _ number.1;
        name_in = leb-true _ _ name.1;
        value_in = leb-true _ _ value.1;
      }

  pub number_from_lem : low ≤ get_or row 0 0
  number_from_lem = param_in.from

  pub number_below : get_or row 0 0 < e
  number_below = param_in.below

  pub name_in : get_or row 1 0 + get_or row 2 0 ≤ length line
  name_in = param_in.name_in

  pub value_in : get_or row 3 0 + get_or row 4 0 ≤ length line
  value_in = param_in.value_in

-- the next parameter, if there is one, is of element `n` or a later one
abbrev Late : ℕ → List (List ℕ) → Type 0
Late n [] = Unit {0}
Late n (row ∷ rows) = n ≤ get_or row 0 0

later : (n m : ℕ) (ps : List (List ℕ)) → m ≤ n → Late n ps → Late m ps
later n m [] h l = tt
later n m (row ∷ rows) h l = omega arith

module _ (line : List ℕ) (ids : List (List ℕ)) where
  -- the elements from one to the next
  module _ (last j : ℕ) (h : j < last) (l : last < length ids) where
    pub opens_step : (93 ∷ open_text line (get_or ids (j + 1) [])) ++ opens_text line (take (last - (j + 1)) (drop (j + 1 + 1) ids)) ≡ opens_text line (take (last - j) (drop (j + 1) ids))
    unfolding opens_text
    opens_step =
        let n : last - j ≡ suc (last - (j + 1)) = omega arith in
        rw (n, ids_step ids (j + 1) (omega arith))

    pub next_in : elements_suit line ids ≡ true → get_or (get_or ids (j + 1) []) 0 0 + get_or (get_or ids (j + 1) []) 1 0 ≤ length line
    next_in s = id_in_lem line ids s (j + 1) (omega arith)

    pub opens_starts : Starts (93 ∷ open_text line (get_or ids (j + 1) [])) (opens_text line (take (last - j) (drop (j + 1) ids)))
    opens_starts = record { others = _; is = opens_step }

  pub opens_none : (last j : ℕ) → last ≤ j → opens_text line (take (last - j) (drop (j + 1) ids)) ≡ []
  unfolding opens_text
  opens_none last j h = let n : last - j ≡ 0 = omega arith in rw n

  -- what is still to come where element `k` is open and the parameters `ps` are left
  unfoldable pub rest_text : ℕ → List (List ℕ) → List ℕ
  rest_text k ps = params_text line k ps ++ (93 ∷ elements_text line (k + 1) (drop (k + 1) ids) (other_params k ps))

  none_of : (k : ℕ) (ps : List (List ℕ)) → Late (k + 1) ps → params_text line k ps ≡ []
  unfolding params_text
  none_of k [] h = refl
  none_of k (row ∷ rows) h = rw (ne_eqb (get_or row 0 0) k (λ e. omega arith))

  all_behind : (k : ℕ) (ps : List (List ℕ)) → Late (k + 1) ps → other_params k ps ≡ ps
  unfolding other_params
  all_behind k [] h = refl
  all_behind k (row ∷ rows) h = rw (ne_eqb (get_or row 0 0) k (λ e. omega arith))

  rest_next : (k : ℕ) (ps : List (List ℕ)) → k + 1 < length ids → Late (k + 1) ps
      → rest_text k ps ≡ (93 ∷ open_text line (get_or ids (k + 1) [])) ++ rest_text (k + 1) ps
  unfolding rest_text elements_text
  rest_next k ps l h = rw (none_of k ps h, all_behind k ps h, ids_step ids (k + 1) l) (simp append_assoc)

  rest_opens : (m k last : ℕ) (ps : List (List ℕ)) → k + m ≡ last → last < length ids → Late last ps
      → rest_text k ps ≡ opens_text line (take m (drop (k + 1) ids)) ++ rest_text last ps
  unfolding opens_text
  rest_opens zero k last ps e l h = let n : k ≡ last = omega arith in ap (λ (i : ℕ). rest_text i ps) n
  rest_opens (suc m) k last ps e l h =
      rest_next k ps (omega arith) (later last (k + 1) ps (omega arith) h)
      ∙ ap (λ (t : List ℕ). (93 ∷ open_text line (get_or ids (k + 1) [])) ++ t) (rest_opens m (k + 1) last ps (omega arith) l h)
      ∙ rw (ids_step ids (k + 1) (omega arith)) (simp append_assoc)

  rest_param : (k : ℕ) (row : List ℕ) (ps : List (List ℕ)) → get_or row 0 0 ≡ k → rest_text k (row ∷ ps) ≡ param_text line row ++ rest_text k ps
  unfolding rest_text params_text other_params
  rest_param k row ps e = rw (eq-eqb (get_or row 0 0) k e) (append_assoc (param_text line row) _ _)

  -- a turn of the walk: the elements up to the parameter's own, and the parameter
  turn_is : (k : ℕ) (row : List ℕ) (ps : List (List ℕ)) → param_suits line (length ids) k row ≡ true
      → (opens_text line (take (get_or row 0 0 - k) (drop (k + 1) ids)) ++ param_text line row) ++ rest_text (get_or row 0 0) ps ≡ rest_text k (row ∷ ps)
  turn_is k row ps h =
      let n = get_or row 0 0 in
      let a = number_from_lem line (length ids) k row h in
      let b = number_below line (length ids) k row h in
      sym (rest_opens (n - k) k n (row ∷ ps) (omega arith) b (omega arith)
      ∙ ap (λ (t : List ℕ). opens_text line (take (n - k) (drop (k + 1) ids)) ++ t) (rest_param n row ps refl)
      ∙ sym (append_assoc (opens_text line (take (n - k) (drop (k + 1) ids))) (param_text line row) (rest_text n ps)))

  -- the end of the walk
  close_is : (k : ℕ) → k < length ids → opens_text line (take (length ids - 1 - k) (drop (k + 1) ids)) ++ (93 ∷ []) ≡ rest_text k []
  unfolding rest_text params_text other_params elements_text
  close_is k h =
      let n = length ids - 1 in
      let d : drop (n + 1) ids ≡ [] = ids_ended ids (n + 1) (omega arith) in
      sym (rest_opens (n - k) k n [] (omega arith) (omega arith) tt ∙ rw d)

  -- the first element is opened
  first_is : (ps : List (List ℕ)) → 0 < length ids → open_text line (get_or ids 0 []) ++ rest_text 0 ps ≡ elements_text line 0 ids ps
  unfolding rest_text elements_text
  first_is ps h = start ids h
    where
      start : (l : List (List ℕ)) → 0 < length l → open_text line (get_or l 0 []) ++ (params_text line 0 ps ++ (93 ∷ elements_text line (0 + 1) (drop (0 + 1) l) (other_params 0 ps))) ≡ elements_text line 0 l ps
      start [] h = absurd (omega arith)
      start (row ∷ rows) h = simp append_assoc

  empty : (ps : List (List ℕ)) → length ids ≡ 0 → [] ≡ elements_text line 0 ids ps
  unfolding elements_text
  empty ps h = none ids h
    where
      none : (l : List (List ℕ)) → length l ≡ 0 → [] ≡ elements_text line 0 l ps
      none [] h = refl
      none (row ∷ rows) h = absurd (omega arith)

  -- the same where there may be no element, and then nothing is to come
  unfoldable pub left_text : ℕ → List (List ℕ) → List ℕ
  left_text k ps = if eqb (length ids) 0 then [] else rest_text k ps

  left_some : (k : ℕ) (ps : List (List ℕ)) → (length ids ≡ 0 → ⊥) → left_text k ps ≡ rest_text k ps
  unfolding left_text
  left_some k ps h = rw (ne_eqb (length ids) 0 h)

  -- how the walk begins and ends, where there is no element and where there is one
  module _ (z : length ids ≡ 0) where
    pub first_none : [] ≡ first_text line ids
    unfolding first_text
    first_none = rw (eq-eqb (length ids) 0 z)

    pub close_none : (k : ℕ) → [] ≡ close_text line ids k
    unfolding close_text
    close_none k = rw (eq-eqb (length ids) 0 z)

  module _ (h : length ids ≡ 0 → ⊥) where
    pub first_some : open_text line (get_or ids 0 []) ≡ first_text line ids
    unfolding first_text
    first_some = rw (ne_eqb (length ids) 0 h)

    pub first_in : elements_suit line ids ≡ true → get_or (get_or ids 0 []) 0 0 + get_or (get_or ids 0 []) 1 0 ≤ length line
    first_in s = id_in_lem line ids s 0 (omega arith)

    module _ (k : ℕ) where
      pub close_some : opens_text line (take (length ids - 1 - k) (drop (k + 1) ids)) ++ (93 ∷ []) ≡ close_text line ids k
      unfolding close_text
      close_some = rw (ne_eqb (length ids) 0 h)

      pub close_starts : Starts (opens_text line (take (length ids - 1 - k) (drop (k + 1) ids))) (close_text line ids k)
      close_starts = record { others = 93 ∷ []; is = close_some }

      pub close_ends : Starts (opens_text line (take (length ids - 1 - k) (drop (k + 1) ids)) ++ (93 ∷ [])) (close_text line ids k)
      close_ends = starts_named _ _ close_some

  pub first_left : (ps : List (List ℕ)) → first_text line ids ++ left_text 0 ps ≡ elements_text line 0 ids ps
  unfolding left_text first_text
  first_left ps = go (dec_le (length ids) 0)
    where
      go : Dec (length ids ≤ 0) → first_text line ids ++ left_text 0 ps ≡ elements_text line 0 ids ps
      go (yes l) = let z : length ids ≡ 0 = omega arith in rw (eq-eqb (length ids) 0 z) (empty ps z)
      go (no l) = rw (ne_eqb (length ids) 0 (λ e. omega arith)) (first_is ps (omega arith))

  pub turn_left : (k : ℕ) (row : List ℕ) (ps : List (List ℕ)) → param_suits line (length ids) k row ≡ true
      → (opens_text line (take (get_or row 0 0 - k) (drop (k + 1) ids)) ++ param_text line row) ++ left_text (get_or row 0 0) ps ≡ left_text k (row ∷ ps)
  turn_left k row ps h =
      let some : length ids ≡ 0 → ⊥ = λ e. omega (arith, number_below line (length ids) k row h) in
      rw (left_some (get_or row 0 0) ps some, left_some k (row ∷ ps) some) (turn_is k row ps h)

  pub close_left : (k : ℕ) → k ≤ length ids - 1 → close_text line ids k ≡ left_text k []
  unfolding left_text
  close_left k h = go (dec_le (length ids) 0)
    where
      nothing : length ids ≡ 0 → [] ≡ left_text k []
      nothing z = rw (eq-eqb (length ids) 0 z)

      go : Dec (length ids ≤ 0) → close_text line ids k ≡ left_text k []
      go (yes l) = let z : length ids ≡ 0 = omega arith in sym (close_none z k) ∙ nothing z
      go (no l) =
          let some : length ids ≡ 0 → ⊥ = λ e. omega arith in
          sym (close_some some k) ∙ close_is k (omega arith) ∙ sym (left_some k [] some)

-- a turn: the parameter's places and number, and its text where its own element is open already
module _ (line : List ℕ) (elements : List (List ℕ)) (count k : ℕ) (p : Param) where
  module _ (s : param_suits line count k (row_of p) ≡ true) where
    pub turn_name : p.name_start + p.name_len ≤ length line
    turn_name = name_in line count k (row_of p) s

    pub turn_value : p.value_start + p.value_len ≤ length line
    turn_value = value_in line count k (row_of p) s

    pub turn_from : k ≤ p.element
    turn_from = number_from_lem line count k (row_of p) s

    pub turn_below : count ≤ length elements → p.element < length (take count elements)
    turn_below h = rw (length-take-le count elements h) (number_below line count k (row_of p) s)

  module _ (h : p.element ≤ k) where
    same_text_lem : param_text line (row_of p) ≡ opens_text line (take (p.element - k) (drop (k + 1) (take count elements))) ++ param_text line (row_of p)
    same_text_lem = rw (opens_none line (take count elements) p.element k h)

    pub same_fits : (o : List ℕ) (at : ℕ) → Fits o at (opens_text line (take (p.element - k) (drop (k + 1) (take count elements))) ++ param_text line (row_of p)) → Fits o at (param_text line (row_of p))
    same_fits o at f = named_fits _ _ o at f same_text_lem

    pub same_wrote : (o : List ℕ) (at n : ℕ) (q : List ℕ) → Wrote o at (param_text line (row_of p)) n q → Wrote o at (opens_text line (take (p.element - k) (drop (k + 1) (take count elements))) ++ param_text line (row_of p)) n q
    same_wrote o at n q w = named _ _ o at n q w same_text_lem

pub opened_in : (elements : List (List ℕ)) (count k : ℕ) → count ≤ length elements → k ≤ count - 1 → k ≤ length (take count elements) - 1
opened_in elements count k h l = rw (length-take-le count elements h) l

pub ruleset turn_laws = (turn_name, turn_value, turn_from, turn_below, same_fits, same_wrote)
