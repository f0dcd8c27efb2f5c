-- The walk that fills both tables: what is left of the structured data at a place, and its steps.
use Prim.Native.Nat.{ℕ, suc, ◌+◌, ◌-◌, ◌^◌, ◌≤◌, ◌<◌}
use mathlib.Core.Path.{◌≡◌, refl, sym, ap, ap₂, ◌∙◌, subst}
use mathlib.Core.Bool.{true, false}
use mathlib.Core.List.{List, [], ◌∷◌, ◌++◌}
use native.Mathlib.Omega.{arith}
use lib.ListN.{length, drop, set, length-append, length-drop}
use mir.Syntax.{w64}
use mir.Val.{Fits}
use Rattle.base.specs.Fills.{filled}
use Rattle.base.specs.Runs.{run}
use Rattle.base.proofs.Tests.{clash}
use Rattle.base.proofs.Runs.{run_no}
use Rattle.grammar.specs.Abnf.{sd_name_byte}
use Rattle.grammar.specs.Line.{Param, Element, each_then, param_then, element_then, data_then, Each, ParamOk, ElementOk}
use Rattle.grammar.specs.Reading.{param_count, element_rows, rows_of_params, param_rows}
use Rattle.grammar.proofs.Readers.{Front, text_length, found_within, many_reads}
use Rattle.grammar.proofs.Data.{param_reads, data_reads, data_front}
use Rattle.strict_data.specs.declared.Entry.{Entry}
use Rattle.record.specs.Params.{row_of, blank}
use Rattle.strict_data.specs.declared.Step.{Step}
use Rattle.strict_data.specs.Entries.{opening, holding, passing, entry_at}
use Rattle.strict_data.specs.Steps.{param_of, step_of, ids_of, Stepping}
use Rattle.strict_data.specs.Filling.{elements_at, Fillable}
use Rattle.strict_data.proofs.Texts.{Found, over, finds_other, finds_id, finds_param}
use Rattle.strict_data.proofs.Tables.{Rows, rows_none, rows_length, rows_all, rows_room, rows_more, rows_same}

-- ---- what is left

-- the NILVALUE; elements; or, of an element that is open, parameters and its end, and then elements
data Left : Type 0 where
  nil : Left
  between : List Element → Left
  inside : List Param → List Element → Left

abbrev text_of : Left → List ℕ → List ℕ
text_of nil r = 45 ∷ r
text_of (between es) r = each_then element_then es r
text_of (inside ps es) r = each_then param_then ps (93 ∷ each_then element_then es r)

-- where `k` elements are opened
abbrev Ok : ℕ → Left → Type 0
Ok k nil = Unit {0}
Ok k (between es) = Each ElementOk es
Ok k (inside ps es) = (1 ≤ k) × Each ParamOk ps × Each ElementOk es

abbrev behind_params : ℕ → List Param → ℕ
behind_params at ps = at + length (each_then param_then ps []) + 1

abbrev elements_left : ℕ → Left → List (List ℕ)
elements_left at nil = []
elements_left at (between es) = element_rows at es
elements_left at (inside ps es) = element_rows (behind_params at ps) es

abbrev params_left : ℕ → ℕ → Left → List (List ℕ)
params_left k at nil = []
params_left k at (between es) = param_rows k at es
params_left k at (inside ps es) = rows_of_params (k - 1) at ps ++ param_rows k (behind_params at ps) es

-- At the place stands the text of what is left, up to `end` of the line.
record Ahead (line r : List ℕ) (at end k : ℕ) (l : Left) : Type 0 where
  text : drop at line ≡ text_of l r
  size : at + length (text_of l []) ≡ end
  ok : Ok k l

-- ---- one step

data Next (line r : List ℕ) (at end k : ℕ) (l : Left) : Type 0 where
  opens : (n : ℕ) (l' : Left) → Found line at (opening at n) → elements_left at l ≡ ((at + 1) ∷ n ∷ []) ∷ elements_left (at + n + 1) l'
      → params_left k at l ≡ params_left (k + 1) (at + n + 1) l' → Ahead line r (at + n + 1) end (k + 1) l' → Next line r at end k l
  holds : (n m : ℕ) (l' : Left) → Found line at (holding at n m) → elements_left at l ≡ elements_left (at + n + m + 4) l'
      → params_left k at l ≡ ((k - 1) ∷ (at + 1) ∷ n ∷ (at + n + 3) ∷ m ∷ []) ∷ params_left k (at + n + m + 4) l' → 1 ≤ k
      → Ahead line r (at + n + m + 4) end k l' → Next line r at end k l
  passes : (l' : Left) → Found line at (passing at) → elements_left at l ≡ elements_left (at + 1) l' → params_left k at l ≡ params_left k (at + 1) l'
      → Ahead line r (at + 1) end k l' → Next line r at end k l

no_name : (ps : List Param) (r : List ℕ) → run sd_name_byte (each_then param_then ps (93 ∷ r)) ≡ 0
no_name [] r = run_no sd_name_byte 93 r refl
no_name (p ∷ ps) r = run_no sd_name_byte 32 _ refl

pub params_length : (ps : List Param) (r : List ℕ) → Each ParamOk ps → length (each_then param_then ps r) ≡ length (each_then param_then ps []) + length r
params_length ps r h = text_length (many_reads 31 param_reads) ps r h

pub param_length : (p : Param) → length (param_then p []) ≡ length p.name + length p.value + 4
param_length p = simp length-append (omega arith)

module _ (line r : List ℕ) (at end k : ℕ) where
  -- a byte that is passed
  a_byte : (b : ℕ) (l : Left) → drop at line ≡ b ∷ text_of l r → at + suc (length (text_of l [])) ≡ end → Ok k l → Ahead line r (at + 1) end k l
  a_byte b l e z h = record { text = over line at (b ∷ []) (text_of l r) e; size = omega arith; ok = h }

  an_id : (e : Element) (es : List Element) → Ahead line r at end k (between (e ∷ es)) → Next line r at end k (between (e ∷ es))
  an_id e es w =
      let ps = e.params in
      let n = length e.id in
      let t = each_then param_then ps (93 ∷ each_then element_then es r) in
      let far : at + length (element_then e []) ≡ behind_params (at + n + 1) ps =
      omega (arith, length-append e.id (each_then param_then ps (93 ∷ [])), params_length ps (93 ∷ []) w.ok.0.params_ok) in
      let q : at + n + 1 ≡ at + length (91 ∷ e.id) = omega arith in
      let one : k ≡ k + 1 - 1 = omega arith in
      opens n (inside ps es)
      (finds_id line at e.id t w.text w.ok.0.id_ok (no_name ps (each_then element_then es r)))
      (ap (λ (x : ℕ). ((at + 1) ∷ n ∷ []) ∷ element_rows x es) far)
      (ap₂ (λ (x y : ℕ). rows_of_params x (at + n + 1) ps ++ param_rows (k + 1) y es) one far)
      (record {
        text = ap (λ (x : ℕ). drop x line) q ∙ over line at (91 ∷ e.id) t w.text;
        size = omega (arith, w.size, length-append e.id (each_then param_then ps (93 ∷ each_then element_then es [])));
        ok = (omega arith, w.ok.0.params_ok, w.ok.1);
      })

  a_param : (p : Param) (ps : List Param) (es : List Element) → Ahead line r at end k (inside (p ∷ ps) es) → Next line r at end k (inside (p ∷ ps) es)
  a_param p ps es w =
      let n = length p.name in
      let m = length p.value in
      let t = each_then param_then ps (93 ∷ each_then element_then es r) in
      let here : at + length (param_then p []) ≡ at + n + m + 4 = omega (arith, param_length p) in
      let far : behind_params at (p ∷ ps) ≡ behind_params (at + n + m + 4) ps = omega (arith, here, text_length param_reads p (each_then param_then ps []) w.ok.1.0) in
      holds n m (inside ps es)
      (finds_param line at p t w.text w.ok.1.0)
      (ap (λ (x : ℕ). element_rows x es) far)
      (ap₂ (λ (x y : ℕ). ((k - 1) ∷ (at + 1) ∷ n ∷ (at + n + 3) ∷ m ∷ []) ∷ (rows_of_params (k - 1) x ps ++ param_rows k y es)) here far)
      w.ok.0
      (record {
        text = ap (λ (x : ℕ). drop x line) (sym here) ∙ over line at (param_then p []) t (w.text ∙ ap (λ (l : List ℕ). 32 ∷ l) (param_reads.plain p t w.ok.1.0));
        size = omega (arith, here, w.size, text_length param_reads p (each_then param_then ps (93 ∷ each_then element_then es [])) w.ok.1.0);
        ok = (w.ok.0, w.ok.1.1, w.ok.2);
      })

  step : (l : Left) → Ahead line r at end k l → at < end → Next line r at end k l
  step nil w h = passes (between []) (finds_other line at 45 r w.text refl refl) refl refl (a_byte 45 (between []) w.text w.size tt)
  step (between []) w h = absurd (omega (arith, w.size))
  step (between (e ∷ es)) w h = an_id e es w
  step (inside [] es) w h =
      let q : behind_params at [] ≡ at + 1 = omega arith in
      passes (between es)
      (finds_other line at 93 (each_then element_then es r) w.text refl refl)
      (ap (λ (x : ℕ). element_rows x es) q) (ap (λ (x : ℕ). param_rows k x es) q) (a_byte 93 (between es) w.text w.size w.ok.2)
  step (inside (p ∷ ps) es) w h = a_param p ps es w

-- ---- the walk

-- The tables held `e₀` and `p₀`; `n` elements and `m` parameters are stored, and the walk is at the place `i`.
pub record Walk (line : List ℕ) (at end : ℕ) (e₀ p₀ e p : List (List ℕ)) (i n m : ℕ) : Type 0 where
  behind : List ℕ
  left : Left
  ahead : Ahead line behind i end n left
  elements_in_lem : Rows (element_rows at (elements_at line at)) (elements_left i left) e₀ e n
  params_in_lem : Rows (param_rows 0 at (elements_at line at)) (params_left n i left) p₀ p m

pub elements_many : (at : ℕ) (es : List Element) → length (element_rows at es) ≡ length es
elements_many at [] = refl
elements_many at (e ∷ es) = ap suc (elements_many (at + length (element_then e [])) es)

params_many : (k at : ℕ) (ps : List Param) → length (rows_of_params k at ps) ≡ length ps
params_many k at [] = refl
params_many k at (p ∷ ps) = ap suc (params_many k (at + length (param_then p [])) ps)

pub all_many : (k at : ℕ) (es : List Element) → length (param_rows k at es) ≡ param_count es
all_many k at [] = refl
all_many k at (e ∷ es) =
    length-append (rows_of_params k (at + length e.id + 1) e.params) (param_rows (k + 1) (at + length (element_then e [])) es)
    ∙ ap₂ ◌+◌ (params_many k (at + length e.id + 1) e.params) (all_many (k + 1) (at + length (element_then e [])) es)

abbrev start : List Element → Left
start [] = nil
start (e ∷ es) = between (e ∷ es)

start_elements : (at : ℕ) (es : List Element) → element_rows at es ≡ elements_left at (start es)
start_elements at [] = refl
start_elements at (e ∷ es) = refl

start_params : (at : ℕ) (es : List Element) → param_rows 0 at es ≡ params_left 0 at (start es)
start_params at [] = refl
start_params at (e ∷ es) = refl

start_ahead : (line : List ℕ) (at len : ℕ) (es : List Element) → Front data_then (Each ElementOk) (drop at line) es len → Ahead line (drop len (drop at line)) at (at + len) 0 (start es)
start_ahead line at len [] f = record { text = f.split; size = omega (arith, f.size); ok = tt }
start_ahead line at len (e ∷ es) f = record { text = f.split; size = ap (λ (k : ℕ). at + k) (sym f.size); ok = f.ok }

pub walk_start : (line : List ℕ) (at len : ℕ) (e p : List (List ℕ)) → Fillable line at len e p → Walk line at (at + len) e p e p at 0 0
walk_start line at len e p w =
    let es = elements_at line at in
    record {
      behind = drop len (drop at line);
      left = start es;
      ahead = start_ahead line at len es (data_front (drop at line) es len w.data_found);
      elements_in_lem = rows_same (start_elements at es) (rows_none (element_rows at es) e (rw elements_many w.elements_room));
      params_in_lem = rows_same (start_params at es) (rows_none (param_rows 0 at es) p (rw all_many w.params_room));
    }

pub data_fits : (line : List ℕ) (at len : ℕ) (e p : List (List ℕ)) → Fillable line at len e p → length line < 2 ^ 64 → Fits w64 at → Fits w64 (at + len)
data_fits line at len e p w l f =
    let k = found_within data_reads (drop at line) (elements_at line at) len w.data_found in
    record { fits = omega (arith, f.fits, length-drop at line) }

ended : (line r : List ℕ) (i end k : ℕ) (l : Left) → Ahead line r i end k l → end ≤ i → l ≡ between []
ended line r i end k nil w h = absurd (omega (arith, w.size))
ended line r i end k (between []) w h = refl
ended line r i end k (between (e ∷ es)) w h = absurd (omega (arith, w.size))
ended line r i end k (inside [] es) w h = absurd (omega (arith, w.size))
ended line r i end k (inside (p ∷ ps) es) w h = absurd (omega (arith, w.size))

-- a step that opens an element, holds a parameter, or does neither
module _ (at k : ℕ) (e : List (List ℕ)) where
  step_id : (n : ℕ) → step_of at k (opening at n) ≡ record { row = blank; holds = false; opened = k + 1; next = at + n + 1 }
  unfolding step_of
  step_id n = refl

  step_param : (n m : ℕ) → step_of at k (holding at n m) ≡ record { row = param_of at k (holding at n m); holds = true; opened = k; next = at + n + m + 4 }
  unfolding step_of
  step_param n m = refl

  step_other : step_of at k (passing at) ≡ record { row = blank; holds = false; opened = k; next = at + 1 }
  unfolding step_of
  step_other = refl

  ids_opening : (n : ℕ) → ids_of at k (opening at n) e ≡ set e k ((at + 1) ∷ n ∷ [])
  unfolding ids_of
  ids_opening n = refl

  ids_other : (x : Entry) → x.opens ≡ false → ids_of at k x e ≡ e
  unfolding ids_of
  ids_other x h = rw h

-- what a step makes of the walk, where its answer is `s` and the element table is `e'` after it
pub record Stepped (line : List ℕ) (at end : ℕ) (e₀ p₀ p : List (List ℕ)) (i m : ℕ) (s : Step) (e' : List (List ℕ)) : Type 0 where
  pub further : i < s.next
  pub room : s.holds ≡ true → m < length p
  pub stored : s.holds ≡ true → Walk line at end e₀ p₀ e' (set p m (row_of s.row)) s.next s.opened (m + 1)
  pub kept : s.holds ≡ false → Walk line at end e₀ p₀ e' p s.next s.opened m

module _ (line : List ℕ) (at end : ℕ) (e₀ p₀ e p : List (List ℕ)) (i n m : ℕ) (w : Walk line at end e₀ p₀ e p i n m) where
  pub walk_elements_length : length e ≡ length e₀
  walk_elements_length = rows_length _ _ _ _ _ w.elements_in_lem

  pub walk_params_length : length p ≡ length p₀
  walk_params_length = rows_length _ _ _ _ _ w.params_in_lem

  pub walk_elements : end ≤ i → e ≡ filled (element_rows at (elements_at line at)) e₀
  walk_elements h = rows_all _ _ _ _ _ w.elements_in_lem (ap (elements_left i) (ended line w.behind i end n w.left w.ahead h))

  pub walk_params : end ≤ i → p ≡ filled (param_rows 0 at (elements_at line at)) p₀
  walk_params h = rows_all _ _ _ _ _ w.params_in_lem (ap (params_left n i) (ended line w.behind i end n w.left w.ahead h))

  module _ (h : i < end) where
    next_here : Next line w.behind i end n w.left
    next_here = step line w.behind i end n w.left w.ahead h

    pub walk_stepping : Stepping line i n e
    walk_stepping = go next_here
      where
        -- of another entry than the one that was found
        no_id : {A : Type 0} {x : Entry} → Found line i x → x.opens ≡ false → (entry_at line i).opens ≡ true → A
        no_id f q t = clash (sym t ∙ ap (λ (y : Entry). y.opens) f.is ∙ q)

        no_param : {A : Type 0} {x : Entry} → Found line i x → x.holds ≡ false → (entry_at line i).holds ≡ true → A
        no_param f q t = clash (sym t ∙ ap (λ (y : Entry). y.holds) f.is ∙ q)

        go : Next line w.behind i end n w.left → Stepping line i n e
        go (opens x l f a b c) = record { lies = f.lies; id_room = λ t. rows_room _ _ _ _ _ w.elements_in_lem _ _ a; some_open = no_param f refl; name_inside = no_param f refl }
        go (holds x y l f a b c d) = record {
          lies = f.lies;
          id_room = no_id f refl;
          some_open = λ t. c;
          name_inside = λ t. let q = f.ends in rw f.is (omega arith);
        }
        go (passes l f a b c) = record { lies = f.lies; id_room = no_id f refl; some_open = no_param f refl; name_inside = no_param f refl }

    module _ (s : Step) (e' : List (List ℕ)) (es : s ≡ step_of i n (entry_at line i)) (ee : e' ≡ ids_of i n (entry_at line i) e) where
      found_step : {x : Entry} → entry_at line i ≡ x → {s₁ : Step} {e₁ : List (List ℕ)} → step_of i n x ≡ s₁ → ids_of i n x e ≡ e₁ → Stepped line at end e₀ p₀ p i m s₁ e₁ → Stepped line at end e₀ p₀ p i m s e'
      found_step f {s₁} {e₁} a b k =
          subst (λ (y : List (List ℕ)). Stepped line at end e₀ p₀ p i m s y) (sym (ee ∙ ap (λ (y : Entry). ids_of i n y e) f ∙ b))
          (subst (λ (y : Step). Stepped line at end e₀ p₀ p i m y e₁) (sym (es ∙ ap (step_of i n) f ∙ a)) k)

      pub walk_step : Stepped line at end e₀ p₀ p i m s e'
      walk_step = go next_here
        where
          go : Next line w.behind i end n w.left → Stepped line at end e₀ p₀ p i m s e'
          go (opens x l f a b c) = found_step f.is (step_id i n e x) (ids_opening i n e x) (record {
            further = omega arith;
            room = λ t. clash (sym t);
            stored = λ t. clash (sym t);
            kept = λ t. record { behind = w.behind; left = l; ahead = c; elements_in_lem = rows_more _ _ _ _ _ w.elements_in_lem _ _ a; params_in_lem = rows_same b w.params_in_lem };
          })
          go (holds x y l f a b c d) = found_step f.is (step_param i n e x y) (ids_other i n e _ refl) (record {
            further = omega arith;
            room = λ t. rows_room _ _ _ _ _ w.params_in_lem _ _ b;
            stored = λ t. record { behind = w.behind; left = l; ahead = d; elements_in_lem = rows_same a w.elements_in_lem; params_in_lem = rows_more _ _ _ _ _ w.params_in_lem _ _ b };
            kept = λ t. clash t;
          })
          go (passes l f a b c) = found_step f.is (step_other i n e) (ids_other i n e _ refl) (record {
            further = omega arith;
            room = λ t. clash (sym t);
            stored = λ t. clash (sym t);
            kept = λ t. record { behind = w.behind; left = l; ahead = c; elements_in_lem = rows_same a w.elements_in_lem; params_in_lem = rows_same b w.params_in_lem };
          })
