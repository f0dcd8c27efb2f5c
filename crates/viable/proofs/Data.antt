-- The readers of the structured data with R-5 and what they read; how far these and the message's reader reach.
use Rattle.std.specs.Prelude.{if◌then◌else◌}
use Prim.Native.Nat.{ℕ, zero, suc}
use mathlib.Core.Path.{◌≡◌, refl, sym, ap, subst}
use mathlib.Core.Bool.{true, false, not, ◌||◌}
use mathlib.Core.List.{List, [], ◌∷◌, ◌++◌}
use mathlib.Core.Option.{some}
use mathlib.Core.Logic.{◌⊎◌, inl, inr, ⊎_elim}
use native.Mathlib.Omega.{arith}
use lib.ListN.{drop}
use lib.Dec.{eqb}
use Rattle.base.specs.Choose.{is_at}
use Rattle.base.specs.Texts.{same_text, is_in, Distinct}
use Rattle.base.proofs.Texts.{different_sound, different_complete}
use Rattle.base.specs.Runs.{run}
use Rattle.base.proofs.Tests.{clash, both, by_test}
use Rattle.base.proofs.Runs.{run_no}
use Rattle.grammar.specs.Abnf.{sd_name_byte, Repeat}
use Rattle.grammar.specs.Line.{Param, Element, each_then, param_then, element_then, data_then, ParamOk, Each, ElementOk, ids_of, MessageOk}
use Rattle.grammar.specs.Parse.{Reader, closed, into, on_found, item_and, many_from, many, ◌next◌, sd_name, param_of, param, element_of, ids_differ, message}
use Rattle.grammar.specs.Parse.Parsed.{failed, found}
use Rattle.grammar.proofs.Readers.{Reads, Any, Made, restate, retext, closed_reads, behind_reads, next_reads, into_reads, fields_reads, always_reads, choose_reads, many_reads}
use Rattle.grammar.proofs.Bytes.{repeat_reads}
use Rattle.grammar.proofs.Data.{value_reads, param_reads, message_then}
use Rattle.viable.specs.Far.{each_from}
use Rattle.viable.specs.Ids.{is_used, is_unused, room, id_of, id_far}
use Rattle.viable.specs.Reach.{param_far, params_far, element_in, element_far, used_and, cons_of, elements, elements_far, structured_in, structured_far, end_far}
use Rattle.viable.proofs.Reaches.{Reaches, restate_reaches, retext_reaches, follow_reads, follow_reaches, next_reaches, closed_reaches, into_reaches, always_reaches, choose_reaches, behind_reaches, same_reaches}
use Rattle.viable.proofs.Items.{EachFrom, each_reads, each_reaches}
use Rattle.viable.proofs.Leaves.{repeat_reaches}
use Rattle.viable.proofs.Texts.{value_reaches, text_reaches, end_reaches}
use Rattle.viable.proofs.Ids.{id_reads, id_full, id_reaches}

-- ---- SD-PARAM

abbrev param_text : Param → List ℕ → List ℕ
param_text p r = p.name ++ (61 ∷ (34 ∷ (p.value ++ (34 ∷ r))))

pub name_reads : Reads (λ t r. t ++ (61 ∷ r)) (Repeat 1 32 sd_name_byte) Any (closed sd_name 61)
name_reads = closed_reads (repeat_reads 32 sd_name_byte) 60 (λ r. run_no sd_name_byte 61 r refl)

pub param_reaches : Reaches param_text ParamOk param param_far
unfolding param param_far
param_reaches =
    into_reaches
    (next_reaches name_reads (behind_reads 33 value_reads)
    (closed_reaches (repeat_reads 32 sd_name_byte) (repeat_reaches 32 sd_name_byte 97 (omega arith) refl refl) 60 refl)
    (behind_reaches 33 refl value_reads value_reaches))
    param_of param_text (λ t r. refl) (λ t h. record { name_ok = h.0; value_utf8 = h.1.0; value_escaped = h.1.1 })

-- items with no state
many_each : {A : Type 0} (b : ℕ) (p : Reader A) (k : ℕ) (s : List ℕ) → many_from b p k s ≡ each_from b (λ (u : Unit {0}). p) (λ u a. u) tt k s
unfolding many_from each_from
many_each b p zero [] = refl
many_each b p (suc k) [] = refl
many_each b p (suc k) (x ∷ s) = many_each b p k s
many_each b p zero (x ∷ s) = ap (λ o. if eqb x b then o else found [] 0) (ap (on_found (p s)) (λ i a n. item_and a n (many_each b p n s i)))

stateless : (l : List Param) → EachFrom (λ (u : Unit {0}). ParamOk) (λ u a. u) tt l → Each ParamOk l
stateless [] h = tt
stateless (p ∷ l) h = (h.0, stateless l h.1)

pub params_reaches : Reaches (each_then param_then) (Each ParamOk) (many 32 param) params_far
unfolding params_far
params_reaches =
    same_reaches (many_each 32 param 0)
    (restate_reaches (each_reaches 31 (λ (u : Unit {0}). param) (λ u a. u) (λ u. param_reads) (λ u. param_far) (λ u. true) (λ u e. param_reaches) (λ u e s. clash e) tt) stateless)

-- ---- SD-ELEMENT

abbrev element_text : Element → List ℕ → List ℕ
element_text e r = e.id ++ each_then param_then e.params (93 ∷ r)

abbrev pub ElementIn : List (List ℕ) → Element → Type 0
ElementIn used e = ElementOk e × (is_unused used e.id ≡ true)

pub no_name : (ps : List Param) (r : List ℕ) → Each ParamOk ps → Any r → run sd_name_byte (each_then param_then ps (93 ∷ r)) ≡ 0
no_name [] r h k = run_no sd_name_byte 93 r refl
no_name (p ∷ ps) r h k = run_no sd_name_byte 32 _ refl

params_closed : Reads (λ ps r. each_then param_then ps (93 ∷ r)) (Each ParamOk) Any (closed (many 32 param) 93)
params_closed = closed_reads (many_reads 31 param_reads) 92 (λ r. refl)

module _ (used : List (List ℕ)) where
  pub element_in_reads : Reads element_text (ElementIn used) Any (element_in used)
  unfolding element_in
  element_in_reads =
      fields_reads (next_reads (id_reads used) params_closed no_name)
      element_of (λ e. (e.id, e.params)) element_text (λ e. refl) (λ t r. refl)
      (λ e h. ((h.0.id_ok, h.1), h.0.params_ok))
      (λ t h. (record { id_ok = h.0.0; params_ok = h.1 }, h.0.1))

  pub element_reaches : room used ≡ true → Reaches element_text (ElementIn used) (element_in used) (element_far used)
  unfolding element_in element_far
  element_reaches r =
      into_reaches (next_reaches (id_reads used) params_closed (id_reaches used r) (closed_reaches (many_reads 31 param_reads) params_reaches 92 refl))
      element_of element_text (λ t r. refl) (λ t h. (record { id_ok = h.0.0; params_ok = h.1 }, h.0.1))

  pub element_full : room used ≡ false → (s : List ℕ) → element_in used s ≡ failed
  unfolding element_in into ◌next◌
  element_full r s = rw (id_full used r s)

-- ---- 1*SD-ELEMENT

abbrev pub Elements : List (List ℕ) → List Element → Type 0
Elements used es = EachFrom ElementIn used_and used es

abbrev FirstOk : Element × List Element → Type 0
FirstOk t = ElementIn [] t.0 × Elements (t.0.id ∷ []) t.1

-- a first element, whatever its id
first_room : room [] ≡ true
unfolding Rattle.viable.specs.Ids.alive Rattle.viable.specs.Ids.any_below
first_room = refl

more_reads : (e : Element) → Reads (each_then element_then) (Elements (e.id ∷ [])) (λ r. is_at r 0 91 ≡ false) (each_from 91 element_in used_and (e.id ∷ []) 0)
more_reads e = each_reads 90 element_in used_and element_in_reads (e.id ∷ [])

elements_reads : Reads (each_then element_then) (Made cons_of FirstOk) (λ r. is_at r 0 91 ≡ false) elements
unfolding elements
elements_reads = into_reads (follow_reads (behind_reads 90 (element_in_reads [])) (λ e h. more_reads e)) cons_of (each_then element_then) (λ t r. refl)

elements_reaches : Reaches (each_then element_then) (Made cons_of FirstOk) elements elements_far
unfolding elements elements_far
elements_reaches =
    into_reaches
    (follow_reaches (behind_reads 90 (element_in_reads [])) (λ e h. more_reads e)
    (behind_reaches 90 refl (element_in_reads []) (element_reaches [] first_room))
    (λ e h. each_reaches 90 element_in used_and element_in_reads element_far room element_reaches element_full (e.id ∷ [])))
    cons_of (each_then element_then) (λ t r. refl) (λ t h. record { of = t; is = refl; ok = h })

-- ---- STRUCTURED-DATA

none_or_some : (es : List Element) → Elements [] es → (es ≡ []) ⊎ Made cons_of FirstOk es
none_or_some [] h = inl refl
none_or_some (e ∷ es) h = inr (record { of = (e, es); is = refl; ok = h })

some_elements : (es : List Element) → Made cons_of FirstOk es → Elements [] es
some_elements es m = subst (Elements []) m.is m.ok

pub structured_reads : Reads data_then (Elements []) (λ r. is_at r 0 91 ≡ false) structured_in
unfolding structured_in
structured_reads =
    restate
    (choose_reads 44
    (always_reads (λ es r. drop 1 (data_then es r)) [] (λ r. refl))
    (retext elements_reads (λ es r m. rw (← m.is)))
    (λ es r e. rw e) (λ es r m _. rw (← m.is)))
    none_or_some
    (λ es. ⊎_elim (λ e. rw e tt) (some_elements es))

pub structured_reaches : Reaches data_then (Elements []) structured_in structured_far
unfolding structured_in structured_far
structured_reaches =
    choose_reaches 44
    (always_reaches (λ es r. drop 1 (data_then es r)) (λ es. es ≡ []) [])
    (retext_reaches elements_reaches (λ es m. rw (← m.is)))
    (λ es e. rw e) (λ es e. rw e tt) some_elements

-- ---- the ids differ

abbrev Unused : List (List ℕ) → List Element → Type 0
Unused used es = Each (λ (e : Element). is_unused used e.id ≡ true) es

unused_more : (used : List (List ℕ)) (i : List ℕ) (es : List Element) → not (is_in i (ids_of es)) ≡ true → Unused used es → Unused (i ∷ used) es
unused_more used i [] d h = tt
unused_more used i (e ∷ es) d h =
    by_test (λ t. not (t || is_in i (ids_of es)) ≡ true → (not (t || is_used used e.id) ≡ true) × Unused (i ∷ used) es) (same_text i e.id)
    (λ _ q. clash (sym q)) (λ _ q. (h.0, unused_more used i es q h.1)) d

unused_less : (used : List (List ℕ)) (i : List ℕ) (es : List Element) → Unused (i ∷ used) es → (not (is_in i (ids_of es)) ≡ true) × Unused used es
unused_less used i [] h = (refl, tt)
unused_less used i (e ∷ es) h =
    let q = unused_less used i es h.1 in
    by_test (λ t. not (t || is_used used e.id) ≡ true → (not (t || is_in i (ids_of es)) ≡ true) × Unused used (e ∷ es)) (same_text i e.id)
    (λ _ u. clash (sym u)) (λ _ u. (q.0, (u, q.1))) h.0

to_elements : (used : List (List ℕ)) (es : List Element) → Each ElementOk es → ids_differ es ≡ true → Unused used es → Elements used es
to_elements used [] h d u = tt
to_elements used (e ∷ es) h d u =
    let p = both (not (is_in e.id (ids_of es))) (ids_differ es) d in
    ((h.0, u.0), to_elements (e.id ∷ used) es h.1 p.1 (unused_more used e.id es p.0 u.1))

record Apart (used : List (List ℕ)) (es : List Element) : Type 0 where
  ok : Each ElementOk es
  differ : ids_differ es ≡ true
  unused : Unused used es

from_elements : (used : List (List ℕ)) (es : List Element) → Elements used es → Apart used es
from_elements used [] h = record { ok = tt; differ = refl; unused = tt }
from_elements used (e ∷ es) h =
    let r = from_elements (e.id ∷ used) es h.1 in
    let u = unused_less used e.id es r.unused in
    record { ok = (h.0.0, r.ok); differ = rw (u.0, r.differ); unused = (h.0.1, u.1) }

none_used : (es : List Element) → Unused [] es
none_used [] = tt
none_used (e ∷ es) = (refl, none_used es)

pub strict_elements : (es : List Element) → Each ElementOk es → Distinct (ids_of es) → Elements [] es
strict_elements es h d = to_elements [] es h (different_complete (ids_of es) d) (none_used es)

pub elements_strict : (es : List Element) → Elements [] es → Each ElementOk es × Distinct (ids_of es)
elements_strict es h = let a = from_elements [] es h in (a.ok, different_sound (ids_of es) a.differ)

-- ---- [SP MSG]

pub message_reaches : Reaches message_then MessageOk message end_far
unfolding message end_far
message_reaches =
    choose_reaches 31
    (into_reaches text_reaches some (λ m r. drop 1 (message_then m r)) {Ok' = Made some (λ m. MessageOk (some m))} (λ m r. refl) (λ m h. record { of = m; is = refl; ok = h }))
    end_reaches
    (λ m h. rw (← h.is)) (λ m h. subst MessageOk h.is h.ok) (λ m e. subst MessageOk (sym e) tt)
