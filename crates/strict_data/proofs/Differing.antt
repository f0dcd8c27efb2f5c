-- The places that were noted tell whether the ids differ.
use Rattle.std.specs.Prelude.{Option, Some}
use Prim.Native.Nat.{ℕ, zero, suc, ◌+◌, ◌*◌, ◌≤◌, ◌<◌}
use mathlib.Core.Path.{◌≡◌, refl, sym, ap, ◌∙◌, subst}
use mathlib.Core.Bool.{Bool, true, false, not}
use mathlib.Core.List.{List, [], ◌∷◌, ◌++◌}
use native.Mathlib.Omega.{arith}
use lib.Dec.{eqb}
use lib.ListN.{length, get_or, take, replicate, length-append, length-map, length-replicate}
use lib.Seq.{length-take-le, get_or-take, take_all}
use borrow.Author.Tests.{not-true}
use Rattle.base.specs.Texts.{all_different}
use Rattle.base.proofs.Tests.{by_test, clash}
use Rattle.base.proofs.Texts.{different_sound, different_complete}
use Rattle.record.specs.Limits.{line_limit}
use Rattle.grammar.specs.Line.{Param, Element, ids_of, each_then, param_then, element_then, Each, ElementOk}
use Rattle.grammar.specs.Parse.{many, element, ids_differ}
use Rattle.grammar.proofs.Readers.{Front, text_length, found_within, many_reads}
use Rattle.grammar.proofs.Data.{element_reads}
use Rattle.distinct.specs.Distinct.{id_of, Rows, FirstRepeat}
use Rattle.distinct.specs.Tree.{Asked}
use Rattle.distinct.proofs.Repeats.{first_tells}
use Rattle.strict_data.specs.Counts.{counts_of}
use Rattle.strict_data.specs.Filling.{elements_of}
use Rattle.strict_data.specs.Ids.{Noting, Rowed, Listed, elements_in, first_differ, Among, Spacious}
use Rattle.strict_data.specs.declared.Counts.{Counts}
use Rattle.strict_data.proofs.Answers.{FindsData, finds_data}

-- ---- how many elements there can be

params_some : (ps : List Param) → 1 ≤ length (each_then param_then ps (93 ∷ []))
params_some [] = omega arith
params_some (p ∷ ps) = omega arith

element_size_lem : (x : Element) (r : List ℕ) → ElementOk x → 3 + length r ≤ length (element_then x r)
element_size_lem x r ok =
    let l : length (x.id ++ each_then param_then x.params (93 ∷ r)) ≡ length (x.id ++ each_then param_then x.params (93 ∷ [])) + length r = text_length element_reads x r ok in
    omega (arith, length-append x.id (each_then param_then x.params (93 ∷ [])), ok.id_ok.at_least, params_some x.params)

elements_size : (es : List Element) → Each ElementOk es → 3 * length es ≤ length (each_then element_then es [])
elements_size [] ok = omega arith
elements_size (x ∷ es) ok = let l = elements_size es ok.1 in omega (arith, element_size_lem x (each_then element_then es []) ok.0)

-- ---- the ids of the first elements

-- where fewer do not differ, more do not
fewer : (ts : List (List ℕ)) (m n : ℕ) → m ≤ n → n ≤ length ts → all_different (take m ts) ≡ false → all_different (take n ts) ≡ false
fewer ts m n h l f =
    by_test (λ t. all_different (take n ts) ≡ t → t ≡ false) (all_different (take n ts))
    (λ _ q. clash (sym (different_complete (take m ts) (λ a b p o e.
    let b-fewer : b < m = omega (arith, length-take-le m ts (omega arith)) in
    different_sound (take n ts) q a b p (omega (arith, length-take-le n ts l))
    (get_or-take n ts a [] (omega arith) ∙ sym (get_or-take m ts a [] (omega arith)) ∙ e ∙ get_or-take m ts b [] b-fewer ∙ sym (get_or-take n ts b [] (omega arith))))) ∙ f))
    (λ _ q. refl) refl

module _ (s : List ℕ) (count : ℕ) (p : Among s count) where
  all_found : FindsData (many 91 element s) p.len p.elements p.params
  all_found = finds_data (many 91 element s) (counts_of (many 91 element s)) refl p.is_data

  elements_are : elements_in s ≡ all_found.value
  elements_are = ap elements_of all_found.is

  ids_many : p.elements ≡ length (ids_of (elements_in s))
  ids_many = all_found.counted ∙ ap length (sym elements_are) ∙ sym (length-map (elements_in s) (λ (e : Element). e.id))

  pub among_most : count ≤ 2730
  among_most =
      let f = all_found in
      let r : Front (each_then element_then) (Each ElementOk) s f.value p.len = (many_reads 90 element_reads).sound s f.value p.len f.is in
      let l = found_within (many_reads 90 element_reads) s f.value p.len f.is in
      omega (arith, elements_size f.value r.ok, r.size, f.counted, p.short, p.few)

  pub among_fewer : (n : ℕ) → n < count → Among s n
  among_fewer n h = record { len = p.len; elements = p.elements; params = p.params; is_data = p.is_data; few = omega (arith, p.few); short = p.short }

  pub among_notes : (starts lens depths kids : List ℕ) → Spacious count starts lens depths kids → Noting s starts lens
  among_notes starts lens depths kids m = record { one_size = m.one_size; short = p.short }

  -- the first of them repeat already
  pub fewer_repeat : (n : ℕ) (r : Bool) → r ≡ first_differ n s → n < count → not r ≡ true → false ≡ first_differ count s
  fewer_repeat n r e h q = sym (fewer (ids_of (elements_in s)) n count (omega arith) (omega (arith, p.few, ids_many)) (sym e ∙ not-true r q))

  module _ (starts lens : List ℕ) (w : Rowed s (elements_in s) starts lens) (h : count ≤ length starts) where
    pub noted_rows : Rows s starts lens count
    noted_rows = record {
      starts_given = h;
      lens_given = omega (arith, w.one_size);
      inside = λ k l. w.inside k (omega (arith, p.few, ids_many, length-map (elements_in s) (λ (e : Element). e.id))) (omega arith);
    }

    pub noted_tell : (r : ℕ) → FirstRepeat (id_of s starts lens) count r → eqb r count ≡ first_differ count s
    noted_tell r f =
        first_tells (id_of s starts lens) count r f (take count (ids_of (elements_in s))) (length-take-le count (ids_of (elements_in s)) (omega (arith, p.few, ids_many)))
        (λ k l. w.named k (omega (arith, p.few, ids_many, length-map (elements_in s) (λ (e : Element). e.id))) (omega arith) ∙ sym (get_or-take count (ids_of (elements_in s)) k [] l))

  -- the places that a pass noted
  module _ (starts₀ lens₀ depths kids : List ℕ) (m : Spacious count starts₀ lens₀ depths kids) (starts lens : List ℕ)
      (w : Listed s (many 91 element s) starts₀ lens₀ starts lens) where
    listed_rows : Rowed s (elements_in s) starts lens
    listed_rows = subst (λ (es : List Element). Rowed s es starts lens) (sym elements_are) (w.rows all_found.value p.len all_found.is)

    pub listed_asked : Asked s starts lens count depths kids
    listed_asked = record { rows = noted_rows starts lens listed_rows (omega (arith, m.rows, w.starts_kept)); room = m.room; clear = m.clear }

    pub listed_tell : (r : ℕ) → FirstRepeat (id_of s starts lens) count r → eqb r count ≡ first_differ count s
    listed_tell = noted_tell starts lens listed_rows (omega (arith, m.rows, w.starts_kept))

pub ruleset differ_laws = (among_most, among_fewer, among_notes, fewer_repeat, noted_rows, noted_tell, listed_asked, listed_tell)

-- ---- room that was just made

zeros : (n q : ℕ) → ◌≡◌ {A = ℕ} (get_or (replicate n 0) q 0) 0
zeros zero q = refl
zeros (suc n) zero = refl
zeros (suc n) (suc q) = zeros n q

pub room_made : (count n slots : ℕ) → count ≤ n → n < 65536 → 128 + 3 * n ≤ slots → Spacious count (replicate n 0) (replicate n 0) (replicate n 0) (replicate slots 0)
room_made count n slots h f l = record {
  rows = simp length-replicate h;
  one_size = refl;
  room = record { few = omega arith; depths_room = simp length-replicate h; slots_room = simp length-replicate (omega arith) };
  clear = zeros slots;
}

-- ---- in a text that was passed

module _ (s : List ℕ) (g : Option Counts) (m n k : ℕ) (e : g ≡ counts_of (many 91 element s)) (h : g ≡ Some (record { len = m; elements = n; params = k })) where
  pub among_all : length s ≤ line_limit → Among s n
  among_all l = record { len = m; elements = n; params = k; is_data = sym e ∙ h; few = omega arith; short = l }

  pub rows_noted : (starts₀ lens₀ starts lens : List ℕ) → Listed s (many 91 element s) starts₀ lens₀ starts lens → Rowed s (elements_in s) starts lens
  rows_noted starts₀ lens₀ starts lens w =
      let f = finds_data (many 91 element s) g e h in
      subst (λ (es : List Element). Rowed s es starts lens) (sym (ap elements_of f.is)) (w.rows f.value m f.is)

  -- all elements are the first so many
  pub all_differ : first_differ n s ≡ ids_differ (elements_in s)
  all_differ =
      let f = finds_data (many 91 element s) g e h in
      let l : length (ids_of (elements_in s)) ≡ n = length-map (elements_in s) (λ (x : Element). x.id) ∙ ap length (ap elements_of f.is) ∙ sym f.counted in
      ap all_different (take_all n (ids_of (elements_in s)) (omega arith))
