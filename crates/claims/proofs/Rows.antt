-- The tables: the rows are those of elements that obey the grammar and stand there, and the rows of such elements tell them.
use Rattle.std.specs.Prelude.{if◌then◌else◌, Some}
use Prim.Native.Nat.{ℕ, ◌+◌, ◌≤◌, ◌<◌}
use mathlib.Core.Path.{◌≡◌, refl, sym, ap, ap₂, ◌∙◌, subst}
use mathlib.Core.Bool.{true, false, ◌&&◌}
use mathlib.Core.List.{List, [], ◌∷◌, ◌++◌, append-nil}
use native.Mathlib.Omega.{arith}
use lib.Dec.{leb, eqb}
use lib.ListN.{length, get_or, length-append}
use borrow.Author.Tests.{le-leb, leb-true, eq-eqb, ne_eqb}
use Rattle.base.specs.Choose.{is_at}
use Rattle.base.specs.Texts.{text_at, same_text}
use Rattle.base.proofs.Tests.{both, by_test}
use Rattle.base.proofs.Texts.{same_is, same_self}
use Rattle.utf8.specs.Lead.{is_utf8}
use Rattle.utf8.proofs.Texts.{utf8_sound, utf8_complete}
use Rattle.grammar.specs.Abnf.{sd_name_byte}
use Rattle.grammar.specs.Line.{Param, Element, each_then, param_then, element_then, data_then, ParamOk, ElementOk, Each, ids_of}
use Rattle.grammar.specs.Reading.{element_rows, rows_of_params, param_rows}
use Rattle.claims.specs.Holds.{front, rest, class_at, well_escaped, value_at, param_next, params_next, id_next, byte_next, nothing_left, elements_next, data_next, ids_at}
use Rattle.claims.proofs.Told.{told_params, told_elements}
use Rattle.claims.proofs.Places.{Here, here_next, here_on, here_text, moved}
use Rattle.claims.proofs.Tests.{never, same_at, next_if_lem, on_next_lem, byte_stands, byte_step, byte_taken, here_inside, byte_then, cut_length, cut_then, class_sound, class_complete, escaped_sound, escaped_complete}

-- ---- lengths

param_size_lem : (p : Param) (r : List ℕ) → length (param_then p r) ≡ length p.name + length p.value + 4 + length r
param_size_lem p r = omega (arith, length-append p.name (61 ∷ (34 ∷ (p.value ++ (34 ∷ r)))), length-append p.value (34 ∷ r))

params_size : (ps : List Param) (r : List ℕ) → length (each_then param_then ps r) ≡ length (each_then param_then ps []) + length r
params_size [] r = omega arith
params_size (p ∷ ps) r = omega (arith, param_size_lem p (each_then param_then ps r), param_size_lem p (each_then param_then ps []), params_size ps r)

pub element_size_lem : (e : Element) (r : List ℕ) → length (element_then e r) ≡ length e.id + length (each_then param_then e.params []) + 2 + length r
element_size_lem e r = omega (arith, length-append e.id (each_then param_then e.params (93 ∷ r)), params_size e.params (93 ∷ r))

elements_size : (es : List Element) (r : List ℕ) → length (each_then element_then es r) ≡ length (each_then element_then es []) + length r
elements_size [] r = omega arith
elements_size (e ∷ es) r = omega (arith, element_size_lem e (each_then element_then es r), element_size_lem e (each_then element_then es []), elements_size es r)

-- ---- the entries of an element's parameters

module _ (line : List ℕ) where
  pub record ParamsHere (k at : ℕ) (rows : List (List ℕ)) (next : ℕ) : Type 0 where
    pub ok : Each ParamOk (told_params line rows)
    pub is : rows ≡ rows_of_params k at (told_params line rows)
    pub ends : next ≡ at + length (each_then param_then (told_params line rows) [])
    pub here : (r : List ℕ) → Here line next r → Here line at (each_then param_then (told_params line rows) r)

  -- one row, and then others
  module _ (k at n m next : ℕ) (rows : List (List ℕ)) (more : ParamsHere k (at + n + m + 4) rows next)
      (space : is_at line at 32 ≡ true) (name : class_at line 32 sd_name_byte (at + 1) n ≡ true)
      (equals : is_at line (at + 1 + n) 61 ≡ true) (quote : is_at line (at + 1 + n + 1) 34 ≡ true)
      (room : at + n + 3 + m ≤ length line)
      (utf8 : is_utf8 (text_at line (at + n + 3) m) ≡ true) (escaped : well_escaped false (text_at line (at + n + 3) m) ≡ true)
      (shut : is_at line (at + n + 3 + m) 34 ≡ true) where
    abbrev the_row : List ℕ
    the_row = k ∷ (at + 1) ∷ n ∷ (at + n + 3) ∷ m ∷ []

    abbrev the_param : Param
    the_param = record { name = text_at line (at + 1) n; value = text_at line (at + n + 3) m }

    name_length : length (text_at line (at + 1) n) ≡ n
    name_length = (class_sound line 32 sd_name_byte (at + 1) n name).1

    value_length : length (text_at line (at + n + 3) m) ≡ m
    value_length = cut_length line (at + n + 3) m room

    param_ends : at + length (param_then the_param []) ≡ at + n + m + 4
    param_ends = omega (arith, param_size_lem the_param [], name_length, value_length)

    param_rows_lem : the_row ∷ rows ≡ rows_of_params k at (the_param ∷ told_params line rows)
    param_rows_lem =
        ap (λ (l : List (List ℕ)). the_row ∷ l) (more.is ∙ ap (λ (j : ℕ). rows_of_params k j (told_params line rows)) (sym param_ends))
        ∙ ap₂ (λ (x y : ℕ). (k ∷ (at + 1) ∷ x ∷ (at + x + 3) ∷ y ∷ []) ∷ rows_of_params k (at + length (param_then the_param [])) (told_params line rows)) (sym name_length) (sym value_length)

    param_here : ParamsHere k at (the_row ∷ rows) next
    param_here =
        record {
          ok = (record { name_ok = (class_sound line 32 sd_name_byte (at + 1) n name).0; value_utf8 = utf8_sound _ utf8; value_escaped = escaped_sound _ escaped }, more.ok);
          is = param_rows_lem;
          ends = omega (arith, more.ends, param_ends, param_size_lem the_param [], param_size_lem the_param (each_then param_then (told_params line rows) []));
          here = λ r g.
              let t = each_then param_then (told_params line rows) r in
              let a = byte_then line (at + n + 3 + m) 33 t shut (moved (at + n + 3 + m + 1) (more.here r g) (omega arith)) in
              let b = cut_then line (at + n + 3) m (34 ∷ t) a in
              let c = byte_then line (at + 1 + n + 1) 33 _ quote (moved (at + 1 + n + 1 + 1) b (omega arith)) in
              byte_then line at 31 _ space (cut_then line (at + 1) n _ (byte_then line (at + 1 + n) 60 _ equals c));
        }

  pub params_step : (rows : List (List ℕ)) (k at next : ℕ) → params_next line k at rows ≡ Some next → ParamsHere k at rows next
  unfolding param_next
  params_step [] k at next h = record { ok = tt; is = refl; ends = omega (arith, same_at h); here = λ r g. moved at g (sym (same_at h)) }
  params_step (row ∷ rows) k at next h =
      let n = get_or row 2 0 in
      let m = get_or row 4 0 in
      let w = on_next_lem (param_next line k at row) _ next h in
      let x1 = same_text row (k ∷ (at + 1) ∷ n ∷ (at + n + 3) ∷ m ∷ []) in
      let x2 = is_at line at 32 in
      let x3 = class_at line 32 sd_name_byte (at + 1) n in
      let x4 = is_at line (at + 1 + n) 61 in
      let x5 = is_at line (at + 1 + n + 1) 34 in
      let x6 = value_at line (at + n + 3) m in
      let x7 = is_at line (at + n + 3 + m) 34 in
      let (t, e) = next_if_lem (x2 && x1 && (x3 && x4 && x5) && (x6 && x7)) (at + n + m + 4) w.to w.first in
      let u1 = both (x2 && x1 && (x3 && x4 && x5)) (x6 && x7) t in
      let u2 = both (x2 && x1) (x3 && x4 && x5) u1.0 in
      let u3 = both x2 x1 u2.0 in
      let u4 = both (x3 && x4) x5 u2.1 in
      let u5 = both x3 x4 u4.0 in
      let u6 = both x6 x7 u1.1 in
      let v1 = both (leb (at + n + 3 + m) (length line) && is_utf8 (text_at line (at + n + 3) m)) (well_escaped false (text_at line (at + n + 3) m)) u6.0 in
      let v2 = both (leb (at + n + 3 + m) (length line)) (is_utf8 (text_at line (at + n + 3) m)) v1.0 in
      let q : row ≡ k ∷ (at + 1) ∷ n ∷ (at + n + 3) ∷ m ∷ [] = same_is row _ u3.1 in
      let i : params_next line k (at + n + m + 4) rows ≡ Some next = ap (λ (j : ℕ). params_next line k j rows) e ∙ w.second in
      let z = param_here k at n m next rows (params_step rows k (at + n + m + 4) next i) u3.0 u5.0 u5.1 u4.1 (leb-true _ _ v2.0) v2.1 v1.1 u6.1 in
      subst (λ (x : List ℕ). ParamsHere k at (x ∷ rows) next) (sym q) z

  -- what is there is told yes
  param_taken : (p : Param) (k at : ℕ) (r : List ℕ) → ParamOk p → Here line at (param_then p r)
      → param_next line k at (k ∷ (at + 1) ∷ length p.name ∷ (at + length p.name + 3) ∷ length p.value ∷ []) ≡ Some (at + length (param_then p []))
  unfolding param_next
  param_taken p k at r ok h =
      let n = length p.name in
      let m = length p.value in
      let a = here_next h in
      let b : Here line (at + 1 + n) (61 ∷ (34 ∷ (p.value ++ (34 ∷ r)))) = here_on p.name a in
      let c : Here line (at + 1 + n + 1) (34 ∷ (p.value ++ (34 ∷ r))) = here_next b in
      let d : Here line (at + n + 3) (p.value ++ (34 ∷ r)) = moved (at + n + 3) (here_next c) (omega arith) in
      let e : Here line (at + n + 3 + m) (34 ∷ r) = here_on p.value d in
      let t = here_text p.value (34 ∷ r) d in
      let u : is_utf8 (text_at line (at + n + 3) m) ≡ true = ap is_utf8 t ∙ utf8_complete p.value ok.value_utf8 in
      let w : well_escaped false (text_at line (at + n + 3) m) ≡ true = ap (well_escaped false) t ∙ escaped_complete ok.value_escaped in
      let l : leb (at + n + 3 + m) (length line) ≡ true = le-leb (at + n + 3 + m) (length line) (omega (arith, here_inside line (at + n + 3 + m) 34 r e)) in
      let z : at + n + m + 4 ≡ at + length (param_then p []) = omega (arith, param_size_lem p []) in
      rw (
        byte_stands line h,
        same_self (k ∷ (at + 1) ∷ n ∷ (at + n + 3) ∷ m ∷ []),
        class_complete line 32 sd_name_byte (at + 1) p.name _ ok.name_ok a,
        byte_stands line b,
        byte_stands line c,
        l,
        u,
        w,
        byte_stands line e,
        z,
      )

  param_past : (p : Param) (at : ℕ) (r : List ℕ) → Here line at (param_then p r) → Here line (at + length (param_then p [])) r
  param_past p at r h = moved (at + length (param_then p [])) (here_next (here_on p.value (here_next (here_next (here_on p.name (here_next h)))))) (omega (arith, param_size_lem p []))

  pub params_taken : (ps : List Param) (k at : ℕ) (r : List ℕ) → Each ParamOk ps → Here line at (each_then param_then ps r)
      → params_next line k at (rows_of_params k at ps) ≡ Some (at + length (each_then param_then ps []))
  params_taken [] k at r ok h = ap Some (omega arith)
  params_taken (p ∷ ps) k at r ok h =
      let i = params_taken ps k (at + length (param_then p [])) r ok.1 (param_past p at (each_then param_then ps r) h) in
      rw (param_taken p k at (each_then param_then ps r) ok.0 h)
      (i ∙ ap Some (omega (arith, param_size_lem p [], param_size_lem p (each_then param_then ps []))))

  params_past : (ps : List Param) (at : ℕ) (r : List ℕ) → Here line at (each_then param_then ps r) → Here line (at + length (each_then param_then ps [])) r
  params_past [] at r h = moved (at + 0) h (omega arith)
  params_past (p ∷ ps) at r h =
      moved _ (params_past ps (at + length (param_then p [])) r (param_past p at (each_then param_then ps r) h))
      (omega (arith, param_size_lem p [], param_size_lem p (each_then param_then ps [])))

  params_told : (ps : List Param) (k at : ℕ) (r : List ℕ) → Here line at (each_then param_then ps r) → told_params line (rows_of_params k at ps) ≡ ps
  params_told [] k at r h = refl
  params_told (p ∷ ps) k at r h =
      let t = each_then param_then ps r in
      let a = here_next h in
      let c : Here line (at + length p.name + 3) (p.value ++ (34 ∷ t)) = moved (at + length p.name + 3) (here_next (here_next (here_on p.name a))) (omega arith) in
      rw (here_text p.name _ a, here_text p.value _ c, params_told ps k (at + length (param_then p [])) r (param_past p at t h))

-- ---- the rows of an element are in front, and those of later ones are not

front_own : (k at : ℕ) (ps : List Param) (more : List (List ℕ)) → front k (rows_of_params k at ps ++ more) ≡ rows_of_params k at ps ++ front k more
front_own k at [] more = refl
front_own k at (p ∷ ps) more = rw (eq-eqb k k refl, front_own k (at + length (param_then p [])) ps more)

rest_own : (k at : ℕ) (ps : List Param) (more : List (List ℕ)) → rest k (rows_of_params k at ps ++ more) ≡ rest k more
rest_own k at [] more = refl
rest_own k at (p ∷ ps) more = rw (eq-eqb k k refl) (rest_own k (at + length (param_then p [])) ps more)

-- where the rows behind have none of element k, neither have those with rows of element j in front
front_past : (k j at : ℕ) (ps : List Param) (more : List (List ℕ)) → k < j → front k more ≡ [] → front k (rows_of_params j at ps ++ more) ≡ []
front_past k j at [] more h e = e
front_past k j at (p ∷ ps) more h e = rw (ne_eqb j k (λ q. omega arith))

rest_past : (k j at : ℕ) (ps : List Param) (more : List (List ℕ)) → k < j → rest k more ≡ more → rest k (rows_of_params j at ps ++ more) ≡ rows_of_params j at ps ++ more
rest_past k j at [] more h e = e
rest_past k j at (p ∷ ps) more h e = rw (ne_eqb j k (λ q. omega arith))

front_later : (k j at : ℕ) (es : List Element) → k < j → front k (param_rows j at es) ≡ []
front_later k j at [] h = refl
front_later k j at (e ∷ es) h = front_past k j _ e.params _ h (front_later k (j + 1) (at + length (element_then e [])) es (omega arith))

rest_later : (k j at : ℕ) (es : List Element) → k < j → rest k (param_rows j at es) ≡ param_rows j at es
rest_later k j at [] h = refl
rest_later k j at (e ∷ es) h = rest_past k j _ e.params _ h (rest_later k (j + 1) (at + length (element_then e [])) es (omega arith))

-- the rows of the first element, and the others
module _ (k a at : ℕ) (ps : List Param) (es : List Element) where
  front_is : front k (rows_of_params k a ps ++ param_rows (k + 1) at es) ≡ rows_of_params k a ps
  front_is = front_own k a ps (param_rows (k + 1) at es) ∙ rw (front_later k (k + 1) at es (omega arith)) (append-nil (rows_of_params k a ps))

  rest_is : rest k (rows_of_params k a ps ++ param_rows (k + 1) at es) ≡ param_rows (k + 1) at es
  rest_is = rest_own k a ps (param_rows (k + 1) at es) ∙ rest_later k (k + 1) at es (omega arith)

-- both, put together again
front_rest : (k : ℕ) (rows : List (List ℕ)) → rows ≡ front k rows ++ rest k rows
front_rest k [] = refl
front_rest k (row ∷ rows) =
    by_test (λ b. row ∷ rows ≡ (if b then row ∷ front k rows else []) ++ (if b then rest k rows else row ∷ rows)) (eqb (get_or row 0 0) k)
    (λ e. ap (λ (l : List (List ℕ)). row ∷ l) (front_rest k rows)) (λ e. refl)

-- ---- the entries of elements

module _ (line : List ℕ) where
  pub record ElementsHere (k at : ℕ) (rows params : List (List ℕ)) (next : ℕ) : Type 0 where
    pub ok : Each ElementOk (told_elements line k rows params)
    pub is_rows : rows ≡ element_rows at (told_elements line k rows params)
    pub is_params : params ≡ param_rows k at (told_elements line k rows params)
    pub ends : next ≡ at + length (each_then element_then (told_elements line k rows params) [])
    pub here : (r : List ℕ) → Here line next r → Here line at (each_then element_then (told_elements line k rows params) r)

  module _ (k at n b next : ℕ) (rows params : List (List ℕ)) (own : ParamsHere line k (at + n + 1) (front k params) b)
      (more : ElementsHere (k + 1) (b + 1) rows (rest k params) next)
      (bracket : is_at line at 91 ≡ true) (name : class_at line 32 sd_name_byte (at + 1) n ≡ true) (shut : is_at line b 93 ≡ true) where
    abbrev the_element : Element
    the_element = record { id = text_at line (at + 1) n; params = told_params line (front k params) }

    abbrev others : List Element
    others = told_elements line (k + 1) rows (rest k params)

    id_length : length (text_at line (at + 1) n) ≡ n
    id_length = (class_sound line 32 sd_name_byte (at + 1) n name).1

    after_is : at + length (element_then the_element []) ≡ b + 1
    after_is = omega (arith, element_size_lem the_element [], id_length, own.ends)

    element_here : ElementsHere k at (((at + 1) ∷ n ∷ []) ∷ rows) params next
    element_here =
        record {
          ok = (record { id_ok = (class_sound line 32 sd_name_byte (at + 1) n name).0; params_ok = own.ok }, more.ok);
          is_rows =
              ap₂ (λ (x : ℕ) (l : List (List ℕ)). ((at + 1) ∷ x ∷ []) ∷ l) (sym id_length)
              (more.is_rows ∙ ap (λ (j : ℕ). element_rows j others) (sym after_is));
          is_params =
              let q : at + length the_element.id + 1 ≡ at + n + 1 = omega (arith, id_length) in
              front_rest k params
              ∙ ap₂ (λ (a c : List (List ℕ)). a ++ c)
              (own.is ∙ ap (λ (j : ℕ). rows_of_params k j (told_params line (front k params))) (sym q))
              (more.is_params ∙ ap (λ (j : ℕ). param_rows (k + 1) j others) (sym after_is));
          ends = omega (arith, more.ends, after_is, element_size_lem the_element (each_then element_then others []), element_size_lem the_element []);
          here = λ r g.
              let t = each_then element_then others r in
              let a = own.here (93 ∷ t) (byte_then line b 92 t shut (more.here r g)) in
              byte_then line at 90 _ bracket (cut_then line (at + 1) n _ (moved (at + 1 + n) a (omega arith)));
        }

  nothing_left_lem : (params : List (List ℕ)) (at next : ℕ) → nothing_left params at ≡ Some next → (params ≡ []) × (at ≡ next)
  nothing_left_lem [] at next h = (refl, same_at h)
  nothing_left_lem (row ∷ rows) at next h = never h

  pub elements_step : (rows : List (List ℕ)) (k at : ℕ) (params : List (List ℕ)) (next : ℕ) → elements_next line k at rows params ≡ Some next → ElementsHere k at rows params next
  unfolding id_next
  elements_step [] k at params next h =
      let (e, q) = nothing_left_lem params at next h in
      record { ok = tt; is_rows = refl; is_params = e; ends = omega arith; here = λ r g. moved at g (sym q) }
  elements_step (row ∷ rows) k at params next h =
      let n = get_or row 1 0 in
      let w1 = on_next_lem (id_next line at row) _ next h in
      let w2 = on_next_lem (params_next line k w1.to (front k params)) _ next w1.second in
      let w3 = on_next_lem (byte_next line w2.to 93) _ next w2.second in
      let x1 = same_text row ((at + 1) ∷ n ∷ []) in
      let x2 = is_at line at 91 in
      let x3 = class_at line 32 sd_name_byte (at + 1) n in
      let (t, e) = next_if_lem (x2 && x1 && x3) (at + n + 1) w1.to w1.first in
      let u1 = both (x2 && x1) x3 t in
      let u2 = both x2 x1 u1.0 in
      let q : row ≡ (at + 1) ∷ n ∷ [] = same_is row _ u2.1 in
      let (c, f) = byte_step line w2.to 92 w3.to w3.first in
      let i : params_next line k (at + n + 1) (front k params) ≡ Some w2.to = ap (λ (j : ℕ). params_next line k j (front k params)) e ∙ w2.first in
      let j : elements_next line (k + 1) (w2.to + 1) rows (rest k params) ≡ Some next = ap (λ (j : ℕ). elements_next line (k + 1) j rows (rest k params)) f ∙ w3.second in
      let z = element_here k at n w2.to next rows params (params_step line (front k params) k (at + n + 1) w2.to i)
      (elements_step rows (k + 1) (w2.to + 1) (rest k params) next j) u2.0 u1.1 c in
      subst (λ (x : List ℕ). ElementsHere k at (x ∷ rows) params next) (sym q) z

  id_taken : (e : Element) (at : ℕ) (r : List ℕ) → ElementOk e → Here line at (element_then e r)
      → id_next line at ((at + 1) ∷ length e.id ∷ []) ≡ Some (at + length e.id + 1)
  unfolding id_next
  id_taken e at r ok h =
      rw (same_self ((at + 1) ∷ length e.id ∷ []), byte_stands line h, class_complete line 32 sd_name_byte (at + 1) e.id _ ok.id_ok (here_next h))

  own_here : (e : Element) (at : ℕ) (r : List ℕ) → Here line at (element_then e r) → Here line (at + length e.id + 1) (each_then param_then e.params (93 ∷ r))
  own_here e at r h = moved (at + length e.id + 1) (here_on e.id (here_next h)) (omega arith)

  end_here : (e : Element) (at : ℕ) (r : List ℕ) → Here line at (element_then e r) → Here line (at + length e.id + 1 + length (each_then param_then e.params [])) (93 ∷ r)
  end_here e at r h = params_past line e.params (at + length e.id + 1) (93 ∷ r) (own_here e at r h)

  next_here : (e : Element) (at : ℕ) (r : List ℕ) → Here line at (element_then e r) → Here line (at + length (element_then e [])) r
  next_here e at r h = moved _ (here_next (end_here e at r h)) (omega (arith, element_size_lem e []))

  pub elements_taken : (es : List Element) (k at : ℕ) (r : List ℕ) → Each ElementOk es → Here line at (each_then element_then es r)
      → elements_next line k at (element_rows at es) (param_rows k at es) ≡ Some (at + length (each_then element_then es []))
  elements_taken [] k at r ok h = ap Some (omega arith)
  elements_taken (e ∷ es) k at r ok h =
      let t = each_then element_then es r in
      let ps = e.params in
      let next = at + length (element_then e []) in
      let shut = at + length e.id + 1 + length (each_then param_then ps []) in
      let s : shut + 1 ≡ next = omega (arith, element_size_lem e []) in
      let i = elements_taken es (k + 1) next r ok.1 (next_here e at t h) in
      rw (
        id_taken e at t ok.0 h,
        front_is k (at + length e.id + 1) next ps es,
        rest_is k (at + length e.id + 1) next ps es,
        params_taken line ps k (at + length e.id + 1) (93 ∷ t) ok.0.params_ok (own_here e at t h),
        byte_taken line shut 93 t (end_here e at t h),
        s,
      )
      (i ∙ ap Some (omega (arith, element_size_lem e [], element_size_lem e (each_then element_then es []))))

  elements_told : (es : List Element) (k at : ℕ) (r : List ℕ) → Here line at (each_then element_then es r) → told_elements line k (element_rows at es) (param_rows k at es) ≡ es
  elements_told [] k at r h = refl
  elements_told (e ∷ es) k at r h =
      let t = each_then element_then es r in
      let next = at + length (element_then e []) in
      rw (
        here_text e.id _ (here_next h),
        front_is k (at + length e.id + 1) next e.params es,
        rest_is k (at + length e.id + 1) next e.params es,
        params_told line e.params k (at + length e.id + 1) (93 ∷ t) (own_here e at t h),
        elements_told es (k + 1) next r (next_here e at t h),
      )

  -- ---- the ids

  pub ids_told : (rows : List (List ℕ)) (k : ℕ) (params : List (List ℕ)) → ids_of (told_elements line k rows params) ≡ ids_at line rows
  ids_told [] k params = refl
  ids_told (row ∷ rows) k params = ap (λ (l : List (List ℕ)). text_at line (get_or row 0 0) (get_or row 1 0) ∷ l) (ids_told rows (k + 1) (rest k params))

-- ---- STRUCTURED-DATA

module _ (line : List ℕ) (at : ℕ) where
  pub record DataHere (rows params : List (List ℕ)) (next : ℕ) : Type 0 where
    pub ok : Each ElementOk (told_elements line 0 rows params)
    pub is_rows : element_rows at (told_elements line 0 rows params) ≡ rows
    pub is_params : param_rows 0 at (told_elements line 0 rows params) ≡ params
    pub ends : next ≡ at + length (data_then (told_elements line 0 rows params) [])
    pub here : (r : List ℕ) → Here line next r → Here line at (data_then (told_elements line 0 rows params) r)

  pub data_step : (rows params : List (List ℕ)) (next : ℕ) → data_next line at rows params ≡ Some next → DataHere rows params next
  data_step [] [] next h =
      let (t, e) = byte_step line at 44 next h in
      record { ok = tt; is_rows = refl; is_params = refl; ends = sym e; here = λ r g. byte_then line at 44 r t (moved (at + 1) g (sym e)) }
  data_step [] (row ∷ rows) next h = never h
  data_step (row ∷ rows) params next h =
      let e = elements_step line (row ∷ rows) 0 at params next h in
      record { ok = e.ok; is_rows = sym e.is_rows; is_params = sym e.is_params; ends = e.ends; here = e.here }

  pub data_taken : (es : List Element) (r : List ℕ) → Each ElementOk es → Here line at (data_then es r)
      → data_next line at (element_rows at es) (param_rows 0 at es) ≡ Some (at + length (data_then es []))
  data_taken [] r ok h = byte_taken line at 45 r h
  data_taken (e ∷ es) r ok h = elements_taken line (e ∷ es) 0 at r ok h

  pub data_told : (es : List Element) (r : List ℕ) → Here line at (data_then es r) → told_elements line 0 (element_rows at es) (param_rows 0 at es) ≡ es
  data_told [] r h = refl
  data_told (e ∷ es) r h = elements_told line (e ∷ es) 0 at r h
