-- The walks over parameters and over elements: their steps, and what they count.
use Rattle.std.specs.Prelude.{Option, Some, None}
use Prim.Native.Nat.{ℕ, suc, ◌+◌, ◌-◌, ◌^◌, ◌≤◌, ◌<◌}
use mathlib.Core.Path.{◌≡◌, refl, sym, ap, ap₂, ◌∙◌}
use mathlib.Core.Bool.{Bool, true, false, not}
use mathlib.Core.List.{List, [], ◌∷◌, ◌++◌, append_assoc, append-nil}
use native.Mathlib.Omega.{arith}
use native.Mathlib.Nat.{add-zero}
use lib.ListN.{length, get_or, drop, length-drop, length-append}
use lib.Seq.{drop-drop, get_or-drop}
use mir.Syntax.{w64}
use mir.Val.{Fits}
use borrow.Author.Tests.{eq-eqb, ne_eqb, le-leb, lt-leb}
use Rattle.base.specs.Choose.{is_at}
use Rattle.base.proofs.Parts.{ended, at_past}
use Rattle.base.proofs.Tests.{clash}
use Rattle.grammar.specs.Line.{Param, Element, each_then, param_then}
use Rattle.grammar.specs.Parse.{Parsed, Reader, choose, closed, only, item_and, many, ◌next◌, into, sd_name, param, element, listed, ids_differ, structured}
use Rattle.grammar.specs.Parse.Parsed.{failed, found}
use Rattle.grammar.specs.Reading.{param_count}
use Rattle.grammar.proofs.Readers.{found_within, closed_reads, many_end, many_item, many_failed, many_reads}
use Rattle.grammar.specs.Abnf.{sd_name_byte}
use Rattle.grammar.proofs.Bytes.{repeat_reads}
use Rattle.grammar.proofs.Data.{param_reads, element_reads, data_reads}
use Rattle.strict_data.specs.Counts.{counts_of}
use Rattle.strict_data.specs.Filling.{elements_of}
use Rattle.strict_data.specs.Ids.{elements_in, first_differ}
use Rattle.strict_data.specs.Sizes.{size_of, block_of, params_in, item_of}
use Rattle.strict_data.specs.declared.Block.{Block}
use Rattle.strict_data.specs.declared.Item.{Item}
use Rattle.strict_data.specs.declared.Counts.{Counts}
use Rattle.strict_data.proofs.Answers.{finds, misses, finds_block, misses_block, FindsItem, finds_item, misses_item, FindsData, finds_data, misses_data}
use Rattle.strict_data.proofs.Differing.{all_differ}
use Rattle.strict_data.proofs.Pieces.{name_within}

-- ---- items one after the other

-- the items `l`, of `i` bytes, and then what is found after them
abbrev after : {A : Type 0} → List A → ℕ → Parsed (List A) → Parsed (List A)
after l i failed = failed
after l i (found m n) = found (l ++ m) (i + n)

-- `i` bytes are passed: the items `l`
pub record Passed {A : Type 0} (b : ℕ) (p : Reader A) (s : List ℕ) (l : List A) (i : ℕ) : Type 0 where
  pub within_s : i ≤ length s
  pub whole : many b p s ≡ after l i (many b p (drop i s))

module _ {A : Type 0} where
  after_none : (o : Parsed (List A)) → o ≡ after [] 0 o
  after_none failed = refl
  after_none (found m n) = ap (found m) (omega arith)

  after_item : (l : List A) (i : ℕ) (a : A) (n : ℕ) (o : Parsed (List A)) → after l i (item_and a n o) ≡ after (l ++ a ∷ []) (i + 1 + n) o
  after_item l i a n failed = refl
  after_item l i a n (found m k) = let e : i + (n + 1 + k) ≡ i + 1 + n + k = omega arith in ap₂ found (sym (append_assoc l (a ∷ []) m)) e

  pub passed_none : (b : ℕ) (p : Reader A) (s : List ℕ) → Passed b p s [] 0
  passed_none b p s = record { within_s = omega arith; whole = after_none (many b p s) }

  module _ (b : ℕ) (p : Reader A) (s : List ℕ) (l : List A) (i : ℕ) (w : Passed (suc b) p s l i) where
    at_front : (t : Bool) → is_at s i (suc b) ≡ t → is_at (drop i s) 0 (suc b) ≡ t
    at_front t e = rw (get_or-drop i s 0 0, add-zero) e

    ends : many (suc b) p (drop i s) ≡ found [] 0 → many (suc b) p s ≡ found l i
    ends e = w.whole ∙ ap (after l i) e ∙ ap₂ found (append-nil l) (add-zero i)

    pub passed_all : length s ≤ i → many (suc b) p s ≡ found l i
    passed_all h = ends (rw (ended s i h) (many_end b p [] (sym (at_past [] 0 (suc b) (omega arith) (omega arith)))))

    pub passed_other : (get_or s i 0 ≡ suc b → ⊥) → many (suc b) p s ≡ found l i
    passed_other z = ends (many_end b p (drop i s) (at_front false (ne_eqb _ _ z)))

    module _ (e : get_or s i 0 ≡ suc b) where
      front : is_at (drop i s) 0 (suc b) ≡ true
      front = at_front true (eq-eqb _ _ e)

      pub passed_bad : p (drop (i + 1) s) ≡ failed → many (suc b) p s ≡ failed
      passed_bad f = w.whole ∙ ap (after l i) (many_failed b p (drop i s) front (ap p (drop-drop 1 i s) ∙ f))

      pub passed_item : (a : A) (n : ℕ) → p (drop (i + 1) s) ≡ found a n → i + 1 + n ≤ length s → Passed (suc b) p s (l ++ a ∷ []) (i + 1 + n)
      passed_item a n f h =
          record {
            within_s = h;
            whole =
                w.whole
                ∙ ap (after l i) (many_item b p (drop i s) a n front (ap p (drop-drop 1 i s) ∙ f))
                ∙ after_item l i a n (many (suc b) p (drop n (drop 1 (drop i s))))
                ∙ ap (λ (t : List ℕ). after (l ++ a ∷ []) (i + 1 + n) (many (suc b) p t)) (ap (drop n) (drop-drop 1 i s) ∙ drop-drop n (i + 1) s);
          }

-- ---- the parameters of an element

-- `i` bytes are passed: `k` parameters
pub record Params (s : List ℕ) (i k : ℕ) : Type 0 where
  pub items : List Param
  pub passed : Passed 32 param s items i
  pub counted : k ≡ length items
  pub few : k ≤ i

pub params_start : (s : List ℕ) → Params s 0 0
params_start s = record { items = []; passed = passed_none 32 param s; counted = refl; few = omega arith }

module _ (s : List ℕ) (i k : ℕ) (w : Params s i k) where
  pub params_out : length s ≤ i → None ≡ block_of length (closed (many 32 param) 93 s)
  unfolding closed
  params_out h = rw (passed_all 31 param s w.items i w.passed h, ← at_past s i 93 (omega arith) h)

  pub params_close : get_or s i 0 ≡ 93 → Some (record { len = (i + 1); params = k }) ≡ block_of length (closed (many 32 param) 93 s)
  unfolding closed
  params_close e = rw (passed_other 31 param s w.items i w.passed (λ q. omega arith), e, w.counted)

  pub params_other : (get_or s i 0 ≡ 93 → ⊥) → (get_or s i 0 ≡ 32 → ⊥) → None ≡ block_of length (closed (many 32 param) 93 s)
  unfolding closed
  params_other e f = rw (passed_other 31 param s w.items i w.passed f, ne_eqb (get_or s i 0) 93 e)

  module _ (e : get_or s i 0 ≡ 32) (u : List ℕ) (eu : u ≡ drop (i + 1) s) (g : Option ℕ) (eg : g ≡ size_of (param u)) where
    pub params_bad : g ≡ None → None ≡ block_of length (closed (many 32 param) 93 s)
    unfolding closed
    params_bad h = rw (passed_bad 31 param s w.items i w.passed e (ap param (sym eu) ∙ misses (param u) g eg h))

    module _ (n : ℕ) (h : g ≡ Some n) (l : i < length s) where
      params_within : i + 1 + n ≤ length s
      params_within =
          let f = finds (param u) g eg h in
          let d : length u ≡ length s - (i + 1) = ap length eu ∙ length-drop (i + 1) s in
          let k = found_within param_reads u f.value n f.is in
          omega arith

      pub params_fit_lem : length s < 2 ^ 64 → Fits w64 (i + 1 + n)
      params_fit_lem m = let k = params_within in record { fits = omega arith }

      pub params_fall : length s - (i + 1 + n) < length s - i
      params_fall = let k = params_within in omega arith

      pub params_next_lem : Params s (i + 1 + n) (k + 1)
      params_next_lem =
          let f = finds (param u) g eg h in
          record {
            items = w.items ++ f.value ∷ [];
            passed = passed_item 31 param s w.items i w.passed e f.value n (ap param (sym eu) ∙ f.is) params_within;
            counted = simp length-append (omega (arith, w.counted));
            few = omega (arith, w.few);
          }

pub ruleset params_laws = (params_start, params_out, params_close, params_other, params_bad, params_fit_lem, params_fall, params_next_lem)

-- ---- an element

name_size : (s t : List ℕ) (n : ℕ) → sd_name s ≡ found t n → n ≡ length t
name_size s t n e = ((repeat_reads 32 sd_name_byte).sound s t n e).size ∙ ap length (append-nil t)

module _ (s : List ℕ) (g : Option ℕ) (eg : g ≡ size_of (sd_name s)) where
  pub element_no_name : g ≡ None → None ≡ item_of (element s)
  unfolding element into ◌next◌
  element_no_name h = rw (misses (sd_name s) g eg h)

  module _ (n : ℕ) (h : g ≡ Some n) (u : List ℕ) (eu : u ≡ drop n s) (b : Option Block) (eb : b ≡ block_of length (closed (many 32 param) 93 u)) where
    pub element_bad : b ≡ None → None ≡ item_of (element s)
    unfolding element into ◌next◌
    element_bad k = rw ((finds (sd_name s) g eg h).is, ← eu, misses_block length (closed (many 32 param) 93 u) b eb k)

    module _ (x : Block) (k : b ≡ Some x) where
      pub element_fits : length s < 2 ^ 64 → Fits w64 (n + x.len)
      element_fits l =
          let f = finds_block length (closed (many 32 param) 93 u) b eb k in
          let w = found_within (closed_reads (many_reads 31 param_reads) 92 (λ r. refl)) u f.value x.len f.is in
          let d : length u ≡ length s - n = ap length eu ∙ length-drop n s in
          let p = name_within s g n eg h in
          record { fits = omega arith }

      pub element_is : Some (record { len = (n + x.len); params = x.params; id = n }) ≡ item_of (element s)
      unfolding element into ◌next◌
      element_is =
          let f = finds_block length (closed (many 32 param) 93 u) b eb k in
          rw ((finds (sd_name s) g eg h).is, ← eu, f.is, ← f.counted, ← (name_size s (finds (sd_name s) g eg h).value n (finds (sd_name s) g eg h).is))

pub ruleset element_laws = (name_within, element_no_name, element_bad, element_fits, element_is)

-- ---- the elements

-- a parameter takes a byte at least
params_few : (ps : List Param) (r : List ℕ) → length ps ≤ length (each_then param_then ps r)
params_few [] r = omega arith
params_few (p ∷ ps) r = let l = params_few ps r in simp length-append (omega arith)

element_few : (s : List ℕ) (e : Element) (n : ℕ) → element s ≡ found e n → params_in e ≤ n
element_few s e n h =
    let l = params_few e.params (93 ∷ []) in
    let z = (element_reads.sound s e n h).size ∙ length-append e.id (each_then param_then e.params (93 ∷ [])) in
    omega arith

count_more : (es : List Element) (e : Element) → param_count (es ++ e ∷ []) ≡ param_count es + params_in e
count_more [] e = omega arith
count_more (x ∷ es) e = let z = count_more es e in omega arith

-- `i` bytes are passed: `n` elements, with `k` parameters
pub record Elements (s : List ℕ) (i n k : ℕ) : Type 0 where
  pub items : List Element
  pub passed : Passed 91 element s items i
  pub counted : n ≡ length items
  pub params_counted : k ≡ param_count items
  pub few : n ≤ i
  pub params_below : k ≤ i

pub elements_start : (s : List ℕ) → Elements s 0 0 0
elements_start s = record { items = []; passed = passed_none 91 element s; counted = refl; params_counted = refl; few = omega arith; params_below = omega arith }

pub start_items : (s : List ℕ) → (elements_start s).items ≡ []
unfolding elements_start
start_items s = refl

module _ (s : List ℕ) (i n k : ℕ) (w : Elements s i n k) where
  ended_here : many 91 element s ≡ found w.items i → Some (record { len = i; elements = n; params = k }) ≡ counts_of (many 91 element s)
  ended_here e = rw (e, w.counted, w.params_counted)

  pub elements_out : length s ≤ i → Some (record { len = i; elements = n; params = k }) ≡ counts_of (many 91 element s)
  elements_out h = ended_here (passed_all 90 element s w.items i w.passed h)

  pub elements_other : (get_or s i 0 ≡ 91 → ⊥) → Some (record { len = i; elements = n; params = k }) ≡ counts_of (many 91 element s)
  elements_other e = ended_here (passed_other 90 element s w.items i w.passed e)

  module _ (e : get_or s i 0 ≡ 91) (u : List ℕ) (eu : u ≡ drop (i + 1) s) (g : Option Item) (eg : g ≡ item_of (element u)) where
    pub elements_bad : g ≡ None → None ≡ counts_of (many 91 element s)
    elements_bad h = rw (passed_bad 90 element s w.items i w.passed e (ap element (sym eu) ∙ misses_item (element u) g eg h))

    module _ (x : Item) (h : g ≡ Some x) (l : i < length s) where
      here : FindsItem (element u) x.len x.params x.id
      here = finds_item (element u) g eg h

      elements_within : i + 1 + x.len ≤ length s
      elements_within =
          let d : length u ≡ length s - (i + 1) = ap length eu ∙ length-drop (i + 1) s in
          let q = found_within element_reads u here.value x.len here.is in
          omega arith

      params_below_here : x.params ≤ x.len
      params_below_here = let q = element_few u here.value x.len here.is in omega (arith, here.counted)

      pub elements_fit_lem : length s < 2 ^ 64 → Fits w64 (i + 1 + x.len)
      elements_fit_lem z = let q = elements_within in record { fits = omega arith }

      pub elements_params_fit : length s < 2 ^ 64 → Fits w64 (k + x.params)
      elements_params_fit z = let q = elements_within in let r = params_below_here in record { fits = omega (arith, w.params_below) }

      pub elements_fall : length s - (i + 1 + x.len) < length s - i
      elements_fall = let q = elements_within in omega arith

      pub elements_next_lem : Elements s (i + 1 + x.len) (n + 1) (k + x.params)
      elements_next_lem =
          record {
            items = w.items ++ here.value ∷ [];
            passed = passed_item 90 element s w.items i w.passed e here.value x.len (ap element (sym eu) ∙ here.is) elements_within;
            counted = simp length-append (omega (arith, w.counted));
            params_counted = omega (arith, count_more w.items here.value, w.params_counted, here.counted);
            few = omega (arith, w.few);
            params_below = let r = params_below_here in omega (arith, w.params_below);
          }

      pub next_items : elements_next_lem.items ≡ w.items ++ (finds_item (element u) g eg h).value ∷ []
      unfolding elements_next_lem here
      next_items = refl

pub ruleset elements_laws = (elements_start, elements_out, elements_other, elements_bad, elements_fit_lem, elements_params_fit, elements_fall, elements_next_lem)

-- ---- the structured data

not_same : (a b : Bool) → not a ≡ not b → a ≡ b
not_same true true e = refl
not_same false false e = refl
not_same true false e = clash (sym e)
not_same false true e = clash e

module _ (s : List ℕ) (t : Bool) (et : t ≡ is_at s 0 45) where
  pub data_nil : t ≡ true → Some (record { len = 1; elements = 0; params = 0 }) ≡ counts_of (structured s)
  unfolding structured listed choose only
  data_nil h = rw (← et, h)

  module _ (h : t ≡ false) (g : Option Counts) (eg : g ≡ counts_of (many 91 element s)) where
    pub data_bad : g ≡ None → None ≡ counts_of (structured s)
    unfolding structured listed choose only
    data_bad b = rw (← et, h, misses_data (many 91 element s) g eg b)

    module _ (x : Counts) (b : g ≡ Some x) where
      all_here : FindsData (many 91 element s) x.len x.elements x.params
      all_here = finds_data (many 91 element s) g eg b

      pub data_empty : x.elements ≡ 0 → None ≡ counts_of (structured s)
      unfolding structured listed choose only
      data_empty z =
          let f = all_here in
          rw (← et, h, f.is, lt-leb 1 (length f.value) (omega (arith, f.counted)))

      module _ (z : x.elements ≡ 0 → ⊥) (r : Bool) (er : r ≡ first_differ x.elements s) where
        tells : (v : Bool) → not r ≡ not v → ids_differ all_here.value ≡ v
        tells v q =
            let e : elements_in s ≡ all_here.value = ap elements_of all_here.is in
            ap ids_differ (sym e) ∙ sym (all_differ s g x.len x.elements x.params eg b) ∙ sym er ∙ not_same r v q

        pub data_repeats : not r ≡ true → None ≡ counts_of (structured s)
        unfolding structured listed choose only
        data_repeats q =
            let f = all_here in
            let d = tells false q in
            rw (← et, h, f.is, le-leb 1 (length f.value) (omega (arith, f.counted)), d)

        pub data_is : not r ≡ false → Some (record { len = x.len; elements = x.elements; params = x.params }) ≡ counts_of (structured s)
        unfolding structured listed choose only
        data_is q =
            let f = all_here in
            let d = tells true q in
            rw (← et, h, f.is, le-leb 1 (length f.value) (omega (arith, f.counted)), d, ← f.counted, ← f.params_counted)

pub ruleset data_laws = (data_nil, data_bad, data_empty, data_repeats, data_is)

-- what is counted lies within the text
pub data_within : (s : List ℕ) (g : Option Counts) (m n k : ℕ) → g ≡ counts_of (structured s) → g ≡ Some (record { len = m; elements = n; params = k }) → m ≤ length s
data_within s g m n k e h = let f = finds_data (structured s) g e h in found_within data_reads s f.value m f.is
