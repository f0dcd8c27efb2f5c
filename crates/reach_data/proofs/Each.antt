-- Element after element: where they end, where one breaks, and where one goes on.
use Rattle.std.specs.Prelude.{Result, Ok, Err}
use Prim.Native.Nat.{ℕ, zero, suc, ◌+◌, ◌≤◌, ◌<◌}
use mathlib.Core.Path.{◌≡◌, refl, sym, ap, ap₂, ◌∙◌}
use mathlib.Core.Bool.{Bool, true, false, not, ◌||◌}
use mathlib.Core.List.{List, [], ◌∷◌}
use native.Mathlib.Omega.{arith}
use lib.ListN.{length, take, drop}
use lib.Seq.{drop-drop}
use lib.Dec.{eqb}
use borrow.Author.Tests.{eqb-true, eqb-false, not-true, not-false}
use Rattle.base.specs.Choose.{is_at}
use Rattle.base.specs.Texts.{same_text, Differ}
use Rattle.base.proofs.Tests.{clash, by_test}
use Rattle.base.proofs.Texts.{same_is, same_self}
use Rattle.base.proofs.Parts.{at_below}
use Rattle.grammar.specs.Line.{Element}
use Rattle.grammar.specs.Parse.{Parsed, on_found, item_and, choose, element, into, ◌next◌}
use Rattle.grammar.specs.Parse.Parsed.{failed, found}
use Rattle.grammar.proofs.Data.{element_reads}
use Rattle.viable.specs.Far.{each_from, each_far, next_far, follow, choose_far}
use Rattle.viable.specs.Ids.{is_used, room, id_of, id_far, is_shut}
use Rattle.viable.specs.Reach.{element_in, element_far, used_and, cons_of, elements, elements_far, structured_in, structured_far}
use Rattle.viable.specs.Walks.{went_of, onward_of, went_at}
use Rattle.viable.proofs.Data.{element_in_reads}
use Rattle.viable.proofs.Near.{room_early}
use Rattle.viable.proofs.Reaches.{by_parsed}
use Rattle.viable.proofs.Walks.{onward_twice, at_here, choose_yes, choose_no}
use Rattle.reach_data.specs.Pieces.{plain_at, data_at}
use Rattle.reach_data.specs.Rows.{each_at, id_len, used_to, near_of}
use Rattle.reach_data.proofs.Used.{id_used, far_used, unused_same}

-- ---- one step

from_skip : (u : List (List ℕ)) (k : ℕ) (y : List ℕ) → each_from 91 element_in used_and u k y ≡ each_from 91 element_in used_and u 0 (drop k y)
unfolding each_from
from_skip u zero [] = refl
from_skip u zero (x ∷ y) = refl
from_skip u (suc k) [] = refl
from_skip u (suc k) (x ∷ y) = from_skip u k y

far_skip : (u : List (List ℕ)) (k : ℕ) (y : List ℕ) → each_far 91 element_in element_far used_and room u k y ≡ each_far 91 element_in element_far used_and room u 0 (drop k y)
unfolding each_far
far_skip u zero [] = refl
far_skip u zero (x ∷ y) = refl
far_skip u (suc k) [] = refl
far_skip u (suc k) (x ∷ y) = far_skip u k y

abbrev went : List (List ℕ) → List ℕ → Result ℕ ℕ
went u y = went_of (each_from 91 element_in used_and u 0 y) (each_far 91 element_in element_far used_and room u 0 y)

went_end : (u : List (List ℕ)) (y : List ℕ) → is_at y 0 91 ≡ false → went u y ≡ Ok 0
unfolding each_from
went_end u [] h = refl
went_end u (x ∷ y) h = rw h

went_broke : (u : List (List ℕ)) (y : List ℕ) → is_at y 0 91 ≡ true → room u ≡ true → element_in u (drop 1 y) ≡ failed → went u y ≡ Err (element_far u (drop 1 y) + 1)
unfolding each_from each_far
went_broke u [] h r e = absurd (omega (arith, at_below [] 0 90 h))
went_broke u (x ∷ y) h r e = rw (h, r, e)

item_on : {A : Type 0} (o : Parsed (List A)) (a : A) (n k : ℕ) → went_of (item_and a n o) (n + 1 + k) ≡ onward_of (n + 1) (went_of o k)
item_on failed a n k = refl
item_on (found l m) a n k = refl

went_item : (u : List (List ℕ)) (y : List ℕ) (e : Element) (n : ℕ) → is_at y 0 91 ≡ true → room u ≡ true → element_in u (drop 1 y) ≡ found e n
    → went u y ≡ onward_of (n + 1) (went (e.id ∷ u) (drop n (drop 1 y)))
unfolding each_from each_far
went_item u [] e n h r f = absurd (omega (arith, at_below [] 0 90 h))
went_item u (x ∷ y) e n h r f =
    rw (h, r, f)
    (item_on (each_from 91 element_in used_and (e.id ∷ u) n y) e n (each_far 91 element_in element_far used_and room (e.id ∷ u) n y)
    ∙ ap₂ (λ o k. onward_of (n + 1) (went_of o k)) (from_skip (e.id ∷ u) n y) (far_skip (e.id ∷ u) n y))

-- an element whose id is not used
unused_element : (u : List (List ℕ)) (x : List ℕ) (e : Element) (n : ℕ) → element x ≡ found e n → is_used u e.id ≡ false → element_in u x ≡ found e n
unused_element u x e n f h =
    let g = element_reads.sound x e n f in
    ap (element_in u) g.split ∙ (element_in_reads u).complete e (drop n x) (g.ok, ap not h) tt ∙ ap (found e) (sym g.size)

-- where the id is not read, the element is not
no_id : (u : List (List ℕ)) (x : List ℕ) → id_of u x ≡ failed → element_in u x ≡ failed
unfolding element_in into ◌next◌
no_id u x f = rw f

no_id_far : (u : List (List ℕ)) (x : List ℕ) → id_of u x ≡ failed → element_far u x ≡ id_far u x
unfolding element_far next_far
no_id_far u x f = rw f

stuck_is : {A : Type 0} (o : Parsed A) (k at j : ℕ) → Err j ≡ onward_of at (went_of o k) → o ≡ failed
stuck_is failed k at j e = refl
stuck_is (found a m) k at j e = let z : true ≡ false = cc in clash z

module _ (u : List (List ℕ)) (s : List ℕ) (at : ℕ) where
  after : drop 1 (drop at s) ≡ drop (at + 1) s
  after = drop-drop 1 at s

  pub each_end : is_at s at 91 ≡ false → each_at u s at ≡ Ok at
  unfolding went_at
  each_end h = ap (onward_of at) (went_end u (drop at s) (at_here s at 91 ∙ h)) ∙ ap Ok (let z : at + 0 ≡ at = omega arith in z)

  module _ (h : is_at s at 91 ≡ true) (few : length u < 8281) where
    each_broke : element_in u (drop (at + 1) s) ≡ failed → each_at u s at ≡ Err (at + 1 + element_far u (drop (at + 1) s))
    unfolding went_at
    each_broke e =
        ap (onward_of at) (went_broke u (drop at s) (at_here s at 91 ∙ h) (room_early u few) (ap (element_in u) after ∙ e))
        ∙ ap (λ (x : List ℕ). Err (at + (element_far u x + 1))) after
        ∙ ap Err (let z : at + (element_far u (drop (at + 1) s) + 1) ≡ at + 1 + element_far u (drop (at + 1) s) = omega arith in z)

    pub each_on : (e : Element) (n : ℕ) → element (drop (at + 1) s) ≡ found e n → is_used u e.id ≡ false → each_at u s at ≡ each_at (e.id ∷ u) s (at + 1 + n)
    unfolding went_at
    each_on e n f k =
        let d : drop n (drop 1 (drop at s)) ≡ drop (at + 1 + n) s = ap (drop n) after ∙ drop-drop n (at + 1) s in
        ap (onward_of at) (went_item u (drop at s) e n (at_here s at 91 ∙ h) (room_early u few) (ap (element_in u) after ∙ unused_element u (drop (at + 1) s) e n f k))
        ∙ ap (λ (y : List ℕ). onward_of at (onward_of (n + 1) (went (e.id ∷ u) y))) d
        ∙ onward_twice at (n + 1) (went (e.id ∷ u) (drop (at + 1 + n) s))
        ∙ ap (λ (j : ℕ). onward_of j (went (e.id ∷ u) (drop (at + 1 + n) s))) (let z : at + (n + 1) ≡ at + 1 + n = omega arith in z)

    -- an id that is used
    pub each_used : is_used u (take (id_len (drop (at + 1) s)) (drop (at + 1) s)) ≡ true
        → each_at u s at ≡ Err (at + 1 + near_of (id_len (drop (at + 1) s)) (is_shut u (take 31 (drop (at + 1) s))))
    each_used k =
        let x = drop (at + 1) s in
        let f = id_used u x k in
        each_broke (no_id u x f) ∙ ap (λ (j : ℕ). Err (at + 1 + j)) (no_id_far u x f ∙ far_used u x k few)

    -- an element that breaks, whose id is not used
    pub each_plain : is_used u (take (id_len (drop (at + 1) s)) (drop (at + 1) s)) ≡ false → (w : Result ℕ ℕ) → w ≡ plain_at s (at + 1) → (j : ℕ) → w ≡ Err j → each_at u s at ≡ w
    unfolding went_at
    each_plain k w ew j hw =
        let x = drop (at + 1) s in
        let q = ew ∙ ap (onward_of (at + 1)) (sym (unused_same u x k few)) in
        let g = stuck_is (element_in u x) (element_far u x) (at + 1) j (sym hw ∙ q) in
        each_broke g ∙ ap (λ (o : Parsed Element). onward_of (at + 1) (went_of o (element_far u x))) (sym g) ∙ sym q

-- ---- the ids of the first rows

pub used_length : (id : ℕ → List ℕ) (k : ℕ) → length (used_to id k) ≡ k
used_length id zero = refl
used_length id (suc k) = ap suc (used_length id k)

pub used_yes : (id : ℕ → List ℕ) (k j : ℕ) (t : List ℕ) → j < k → id j ≡ t → is_used (used_to id k) t ≡ true
used_yes id zero j t l e = absurd (omega arith)
used_yes id (suc k) j t l e =
    by_test (λ b. eqb j k ≡ b → (same_text (id k) t || is_used (used_to id k) t) ≡ true) (eqb j k)
    (λ _ b. let z : id k ≡ t = ap id (sym (eqb-true j k b)) ∙ e in rw (z, same_self t))
    (λ _ b. let y = used_yes id k j t (omega (arith, eqb-false j k b)) e in by_test (λ c. (c || is_used (used_to id k) t) ≡ true) (same_text (id k) t) (λ _. refl) (λ _. y))
    refl

pub used_no : (id : ℕ → List ℕ) (k : ℕ) (t : List ℕ) → ((j : ℕ) → j < k → id j ≡ t → ⊥) → is_used (used_to id k) t ≡ false
used_no id zero t h = refl
used_no id (suc k) t h =
    by_test (λ b. same_text (id k) t ≡ b → (b || is_used (used_to id k) t) ≡ false) (same_text (id k) t)
    (λ _ b. absurd (h k (omega arith) (same_is (id k) t b)))
    (λ _ b. used_no id k t (λ j l. h j (omega arith)))
    refl

pub differ_less : (id : ℕ → List ℕ) (m n : ℕ) → m ≤ n → Differ id n → Differ id m
differ_less id m n l d a b p q = d a b p (omega arith)

pub differ_new : (id : ℕ → List ℕ) (k : ℕ) → Differ id (suc k) → is_used (used_to id k) (id k) ≡ false
differ_new id k d = used_no id k (id k) (λ j l. d j k l (omega arith))

-- ---- 1*SD-ELEMENT

first_item : (o : Parsed (List Element)) (e : Element) (n k : ℕ)
    → went_of (on_found (on_found {B = Element × List Element} o λ b m. found (e, b) (n + 1 + m)) λ a m. found (cons_of a) m) (n + 1 + k) ≡ onward_of (n + 1) (went_of o k)
first_item failed e n k = refl
first_item (found l m) e n k = refl

-- a first element, and then as many as there are
all_elements : (y : List ℕ) → is_at y 0 91 ≡ true → went_of (elements y) (elements_far y) ≡ went [] y
unfolding elements elements_far into follow next_far choose choose_far
all_elements y h =
    by_parsed (λ o. element_in [] (drop 1 y) ≡ o → went_of (elements y) (elements_far y) ≡ went [] y) (element_in [] (drop 1 y))
    (λ _ e. rw (h, e) (sym (went_broke [] y h (room_early [] (omega arith)) e)))
    (λ e n _ f.
    let d : drop (n + 1) y ≡ drop n (drop 1 y) = ap (λ (k : ℕ). drop k y) (let z : n + 1 ≡ 1 + n = omega arith in z) ∙ sym (drop-drop n 1 y) in
    rw (h, f) (first_item (each_from 91 element_in used_and (e.id ∷ []) 0 (drop (n + 1) y)) e n (each_far 91 element_in element_far used_and room (e.id ∷ []) 0 (drop (n + 1) y))
    ∙ ap (λ (z : List ℕ). onward_of (n + 1) (went (e.id ∷ []) z)) d
    ∙ sym (went_item [] y e n h (room_early [] (omega arith)) f)))
    refl

none_led : (at : ℕ) (y : List ℕ) → is_at y 0 91 ≡ false → Err at ≡ onward_of at (went_of (elements y) (elements_far y))
unfolding elements elements_far into follow next_far choose choose_far
none_led at y q = rw q (ap Err (let z : at ≡ at + 0 = omega arith in z))

-- ---- STRUCTURED-DATA

module _ (s : List ℕ) (at : ℕ) (t : Bool) (et : t ≡ is_at s at 45) where
  pub data_nil : t ≡ true → Ok (at + 1) ≡ data_at s at
  unfolding structured_in structured_far went_at
  data_nil h = choose_yes _ _ _ _ 45 s at t et h (Ok (at + 1)) (ap Ok (let z : at + 1 ≡ at + 1 + 0 = omega arith in z))

  module _ (h : t ≡ false) (u : Bool) (eu : u ≡ is_at s at 91) where
    pub data_none : u ≡ false → Err at ≡ data_at s at
    unfolding structured_in structured_far went_at
    data_none k = choose_no _ _ _ _ 45 s at t et h (Err at) (none_led at (drop at s) (at_here s at 91 ∙ sym eu ∙ k))

    pub data_elements : u ≡ true → (x : Result ℕ ℕ) → x ≡ each_at [] s at → x ≡ data_at s at
    unfolding structured_in structured_far went_at
    data_elements k x e = choose_no _ _ _ _ 45 s at t et h x (e ∙ ap (onward_of at) (sym (all_elements (drop at s) (at_here s at 91 ∙ sym eu ∙ k))))

pub ruleset data_laws = (data_nil, data_none, data_elements)
