-- What is left of the line at each step of the walk: its text, and whether it fits. `ids` are the rows of the elements, `ps` those of the parameters that are left.
use Rattle.std.specs.Prelude.{if◌then◌else◌}
use Prim.Native.Nat.{ℕ, suc, ◌+◌, ◌-◌, ◌*◌, ◌≤◌, ◌<◌}
use mathlib.Core.Path.{◌≡◌, refl, sym, ap, ◌∙◌}
use mathlib.Core.Bool.{Bool, true, false, ◌&&◌}
use mathlib.Core.List.{List, [], ◌∷◌, ◌++◌, append_assoc}
use native.Mathlib.Decide.{dec_le}
use native.Mathlib.Nat.{mul-le-mul_right, add-mul}
use native.Mathlib.Numerals.{add-one}
use native.Mathlib.Omega.{arith}
use lib.Dec.{ltb, eqb}
use lib.ListN.{length, get_or, take, drop, drop_of_length-le}
use lib.Seq.{drop-cons}
use borrow.Author.Tests.{lt-ltb, le-ltb, ltb-true, ne_eqb}
use Rattle.base.specs.Texts.{text_at}
use Rattle.base.proofs.Tests.{both, by_test}
use Rattle.record.specs.Params.{row_of}
use Rattle.record.specs.declared.Param.{Param}
use Rattle.suits.proofs.Rows.{row_step, rows_ended}
use Rattle.grammar.specs.Line.{each_then, param_then, element_then, data_then}
use Rattle.writes.specs.Written.{escape, escape_params, escape_elements}
use Rattle.writes.specs.Told.{front, rest, told_params, told_elements}
use Rattle.grammar.specs.Abnf.{sd_name_byte}
use Rattle.writes.specs.Fits.{class_fits, params_fit, elements_fit}
use Rattle.fitting.specs.Heads.{row_fits}
use Rattle.ids.specs.Ids.{id_in}
use Rattle.writer_data.specs.declared.Walk.{Walk}
use Rattle.writer_data.specs.Walks.{param_text, next_text, first_text, id_fits, is_own, step_text, step_fits, Leads}

-- with element k open, and then r
abbrev pub open_then : List ℕ → ℕ → List (List ℕ) → List (List ℕ) → List ℕ → List ℕ
open_then text k ids ps r =
    each_then param_then (escape_params (told_params text (front k ps))) (93 ∷ each_then element_then (escape_elements (told_elements text (k + 1) ids (rest k ps))) r)

abbrev pub open_fit : List ℕ → ℕ → List (List ℕ) → List (List ℕ) → Bool
open_fit text k ids ps = params_fit (told_params text (front k ps)) && elements_fit (told_elements text (k + 1) ids (rest k ps))

unfoldable pub left_then : List ℕ → List (List ℕ) → ℕ → List (List ℕ) → List ℕ → List ℕ
left_then text ids k ps r = if ltb k (length ids) then open_then text k (drop (k + 1) ids) ps r else r

unfoldable pub left_fit : List ℕ → List (List ℕ) → ℕ → List (List ℕ) → Bool
left_fit text ids k ps = if ltb k (length ids) then open_fit text k (drop (k + 1) ids) ps else true

-- ---- a parameter of the element that is open

param_then_lem : (n v r : List ℕ) → 32 ∷ (n ++ (61 ∷ (34 ∷ (v ++ (34 ∷ r))))) ≡ ((32 ∷ []) ++ n ++ (61 ∷ 34 ∷ []) ++ v ++ (34 ∷ [])) ++ r
param_then_lem n v r =
    sym (append_assoc ((32 ∷ n) ++ (61 ∷ 34 ∷ []) ++ v) (34 ∷ []) r
    ∙ append_assoc ((32 ∷ n) ++ (61 ∷ 34 ∷ [])) v (34 ∷ r)
    ∙ append_assoc (32 ∷ n) (61 ∷ 34 ∷ []) (v ++ (34 ∷ r)))

pub and_assoc : (a b c : Bool) → ((a && b) && c) ≡ (a && (b && c))
and_assoc true b c = refl
and_assoc false b c = refl

module _ (text : List ℕ) (k : ℕ) (ids : List (List ℕ)) (row : List ℕ) (ps : List (List ℕ)) (e : eqb (get_or row 0 0) k ≡ true) where
  param_text_lem : (r : List ℕ) → open_then text k ids (row ∷ ps) r ≡ param_text text row ++ open_then text k ids ps r
  param_text_lem r = rw e (param_then_lem (text_at text (get_or row 1 0) (get_or row 2 0)) (escape (text_at text (get_or row 3 0) (get_or row 4 0))) (open_then text k ids ps r))

  param_fit : open_fit text k ids (row ∷ ps) ≡ (row_fits text row && open_fit text k ids ps)
  param_fit = rw e (and_assoc (row_fits text row) (params_fit (told_params text (front k ps))) (elements_fit (told_elements text (k + 1) ids (rest k ps))))

-- ---- the end of the element that is open

ids_step : (ids : List (List ℕ)) (k : ℕ) → k < length ids → drop k ids ≡ get_or ids k [] ∷ drop (k + 1) ids
ids_step ids k h = rw (add-one) (drop-cons ids k [] h)

module _ (text : List ℕ) (ids : List (List ℕ)) (k : ℕ) (h : k < length ids) (ps : List (List ℕ)) (f : front k ps ≡ []) (g : rest k ps ≡ ps) where
  next_text_lem : (r : List ℕ) → open_then text k (drop (k + 1) ids) ps r ≡ next_text text ids k ++ left_then text ids (k + 1) ps r
  unfolding left_then
  next_text_lem r = go (dec_le (length ids) (k + 1))
    where
      go : Dec (length ids ≤ k + 1) → open_then text k (drop (k + 1) ids) ps r ≡ next_text text ids k ++ left_then text ids (k + 1) ps r
      go (yes p) = rw (f, g, le-ltb (k + 1) (length ids) p, drop_of_length-le ids {i = k + 1} p)
      go (no p) = rw (f, g, lt-ltb (k + 1) (length ids) (omega arith), ids_step ids (k + 1) (omega arith))

  next_fit : open_fit text k (drop (k + 1) ids) ps ≡ (id_fits text ids (k + 1) && left_fit text ids (k + 1) ps)
  unfolding left_fit
  next_fit = go (dec_le (length ids) (k + 1))
    where
      go : Dec (length ids ≤ k + 1) → open_fit text k (drop (k + 1) ids) ps ≡ (id_fits text ids (k + 1) && left_fit text ids (k + 1) ps)
      go (yes p) = rw (f, g, le-ltb (k + 1) (length ids) p, drop_of_length-le ids {i = k + 1} p)
      go (no p) = rw (f, g, lt-ltb (k + 1) (length ids) (omega arith), ids_step ids (k + 1) (omega arith))
          (and_assoc (class_fits 32 sd_name_byte (id_in text (get_or ids (k + 1) []))) (params_fit (told_params text (front (k + 1) ps))) (elements_fit (told_elements text (k + 1 + 1) (drop (k + 1 + 1) ids) (rest (k + 1) ps))))

-- ---- a step

-- the entry is the next row, where one is left
pub record Entered (params : List (List ℕ)) (count i : ℕ) (p : Param) : Type 0 where
  pub counted : count ≤ length params
  pub row : i < count → row_of p ≡ get_or params i []

-- where a step leads, whatever it writes
abbrev pub led : ℕ → Walk → Param → Walk
led count w p =
    record {
      element = if is_own w count p then w.element else w.element + 1;
      next = if is_own w count p then w.next + 1 else w.next;
      at = 0;
      fits = true;
    }

pub led_leads : (count : ℕ) (w : Walk) (p : Param) → Leads count w p (led count w p)
led_leads count w p = record { element_is = refl; next_is = refl }

-- how far a walk over n elements and `count` parameters is from its end
abbrev pub distance : ℕ → ℕ → Walk → ℕ
distance n count w = (n - w.element) * suc count + (count - w.next)

pub nearer : (a b c d count : ℕ) → a < b → c ≤ count → a * suc count + c < b * suc count + d
nearer a b c d count l m =
    let k : suc a * suc count ≤ b * suc count = mul-le-mul_right (suc count) l in
    omega (arith, add-mul 1 a (suc count))

module _ (params : List (List ℕ)) (count : ℕ) (w : Walk) (p : Param) (x : Entered params count w.next p) where
  abbrev ahead : ℕ → List (List ℕ)
  ahead i = drop i (take count params)

  module _ (own : is_own w count p ≡ true) where
    own_parts : (ltb w.next count ≡ true) × (eqb p.element w.element ≡ true)
    own_parts = both (ltb w.next count) (eqb p.element w.element) own

    pub own_below : w.next < count
    own_below = ltb-true w.next count own_parts.0

    own_row : ahead w.next ≡ row_of p ∷ ahead (w.next + 1)
    own_row = row_step params count x.counted w.next [] own_below ∙ ap (λ (r : List ℕ). r ∷ ahead (w.next + 1)) (sym (x.row own_below))

  module _ (own : is_own w count p ≡ false) where
    no_more : count ≤ w.next → ahead w.next ≡ []
    no_more h = rows_ended params count x.counted w.next h

    other_row : w.next < count → ahead w.next ≡ row_of p ∷ ahead (w.next + 1)
    other_row h = row_step params count x.counted w.next [] h ∙ ap (λ (r : List ℕ). r ∷ ahead (w.next + 1)) (sym (x.row h))

    other_is : w.next < count → eqb p.element w.element ≡ false
    other_is h = sym (ap (λ (b : Bool). b && eqb p.element w.element) (lt-ltb w.next count h)) ∙ own

    other_front : front w.element (ahead w.next) ≡ []
    other_front = go (dec_le count w.next)
      where
        go : Dec (count ≤ w.next) → front w.element (ahead w.next) ≡ []
        go (yes h) = rw (no_more h)
        go (no h) = rw (other_row (omega arith), other_is (omega arith))

    other_rest : rest w.element (ahead w.next) ≡ ahead w.next
    other_rest = go (dec_le count w.next)
      where
        go : Dec (count ≤ w.next) → rest w.element (ahead w.next) ≡ ahead w.next
        go (yes h) = rw (no_more h)
        go (no h) = rw (other_row (omega arith), other_is (omega arith))

  module _ (text : List ℕ) (ids : List (List ℕ)) (h : w.element < length ids) (v : Walk) (l : Leads count w p v) where
    pub step_text_lem : (r : List ℕ) → step_text text ids count w p ++ left_then text ids v.element (ahead v.next) r ≡ left_then text ids w.element (ahead w.next) r
    unfolding left_then
    step_text_lem r =
        by_test (λ b. is_own w count p ≡ b → step_text text ids count w p ++ left_then text ids v.element (ahead v.next) r ≡ left_then text ids w.element (ahead w.next) r) (is_own w count p)
        (λ _ q.
        rw (l.element_is, l.next_is, q, lt-ltb w.element (length ids) h, own_row q)
        (sym (param_text_lem text w.element (drop (w.element + 1) ids) (row_of p) (ahead (w.next + 1)) (own_parts q).1 r)))
        (λ _ q.
        rw (l.element_is, l.next_is, q, lt-ltb w.element (length ids) h)
        (sym (next_text_lem text ids w.element h (ahead w.next) (other_front q) (other_rest q) r)))
        refl

    pub step_fit : left_fit text ids w.element (ahead w.next) ≡ (step_fits text ids count w p && left_fit text ids v.element (ahead v.next))
    unfolding left_fit
    step_fit =
        by_test (λ b. is_own w count p ≡ b → left_fit text ids w.element (ahead w.next) ≡ (step_fits text ids count w p && left_fit text ids v.element (ahead v.next))) (is_own w count p)
        (λ _ q.
        rw (l.element_is, l.next_is, q, lt-ltb w.element (length ids) h, own_row q)
        (param_fit text w.element (drop (w.element + 1) ids) (row_of p) (ahead (w.next + 1)) (own_parts q).1))
        (λ _ q.
        rw (l.element_is, l.next_is, q, lt-ltb w.element (length ids) h)
        (next_fit text ids w.element h (ahead w.next) (other_front q) (other_rest q)))
        refl

    -- it comes nearer to the end
    pub step_less : distance (length ids) count v < distance (length ids) count w
    step_less =
        by_test (λ b. is_own w count p ≡ b → distance (length ids) count v < distance (length ids) count w) (is_own w count p)
        (λ _ q. rw (l.element_is, l.next_is, q) (omega (arith, own_below q)))
        (λ _ q. rw (l.element_is, l.next_is, q) (nearer (length ids - (w.element + 1)) (length ids - w.element) (count - w.next) (count - w.next) count (omega arith) (omega arith)))
        refl

    pub step_to : v.element ≤ length ids
    step_to =
        by_test (λ b. is_own w count p ≡ b → v.element ≤ length ids) (is_own w count p)
        (λ _ q. rw (l.element_is, q) (omega arith)) (λ _ q. rw (l.element_is, q) (omega arith)) refl

-- ---- the beginning and the end

module _ (text : List ℕ) (ids ps : List (List ℕ)) where
  pub first_text_lem : (r : List ℕ) → first_text text ids ++ left_then text ids 0 ps r ≡ data_then (escape_elements (told_elements text 0 ids ps)) r
  unfolding left_then
  first_text_lem r = go ids
    where
      go : (rows : List (List ℕ)) → first_text text rows ++ left_then text rows 0 ps r ≡ data_then (escape_elements (told_elements text 0 rows ps)) r
      go [] = refl
      go (row ∷ rows) = rw (lt-ltb 0 (suc (length rows)) (omega arith), ne_eqb (suc (length rows)) 0 (λ z. omega arith))

  pub first_fit : elements_fit (told_elements text 0 ids ps) ≡ (id_fits text ids 0 && left_fit text ids 0 ps)
  unfolding left_fit
  first_fit = go ids
    where
      go : (rows : List (List ℕ)) → elements_fit (told_elements text 0 rows ps) ≡ (id_fits text rows 0 && left_fit text rows 0 ps)
      go [] = refl
      go (row ∷ rows) =
          rw (lt-ltb 0 (suc (length rows)) (omega arith))
          (and_assoc (class_fits 32 sd_name_byte (id_in text row)) (params_fit (told_params text (front 0 ps))) (elements_fit (told_elements text 1 rows (rest 0 ps))))

  module _ (k : ℕ) (h : length ids ≤ k) where
    pub left_none : (r : List ℕ) → left_then text ids k ps r ≡ r
    unfolding left_then
    left_none r = rw (le-ltb k (length ids) h)

    pub fit_none : left_fit text ids k ps ≡ true
    unfolding left_fit
    fit_none = rw (le-ltb k (length ids) h)
