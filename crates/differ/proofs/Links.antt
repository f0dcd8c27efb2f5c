-- The texts of pairs are the same where the pairs are; so what is odd among the texts is odd among the pairs.
use Rattle.std.specs.Prelude.{if◌then◌else◌}
use Prim.Native.Nat.{ℕ, zero, suc, ◌+◌, ◌-◌, ◌/◌, ◌%◌, ◌≤◌, ◌<◌}
use mathlib.Core.Path.{◌≡◌, refl, sym, ap, ap₂, ◌∙◌, subst}
use mathlib.Core.Bool.{Bool, true, false, not, ◌&&◌}
use mathlib.Core.List.{List, [], ◌∷◌, ◌++◌, map}
use native.Mathlib.Omega.{arith}
use lib.Dec.{eqb}
use lib.ListN.{length, get_or, take, drop, length-map, length-drop}
use lib.Seq.{take_at, drop_at, length-take-le}
use borrow.Author.Tests.{eq-eqb, eqb-true}
use Rattle.base.specs.Texts.{text_at, same_text}
use Rattle.base.proofs.Tests.{by_test, both, clash}
use Rattle.base.proofs.Texts.{same_is, same_self}
use Rattle.record.specs.Limits.{line_limit}
use Rattle.lookup.specs.Unescape.{unescaped}
use Rattle.pairs.specs.Odd.{tally, is_odd, element_of, Least}
use Rattle.pairs.specs.declared.Odd.{Odd}
use Rattle.keyed.specs.Keys.{short, head_text, tail_text, key_text}
use Rattle.keyed.specs.Odd.{keys_of, FirstOdd}
use Rattle.differ.specs.Seen.{Pair, id_of, pair_of}
use Rattle.differ.specs.Differences.{same_pair, occurs}
use Rattle.differ.specs.Steps.{RowIn, Readable, rows_in_line, seen_by}
use Rattle.differ.specs.declared.Line.{Line}
use Rattle.differ.proofs.Parts.{blank_pair, uneven, Linked}

-- ---- lists

get_or_left : {A : Type 0} (d : A) (a b : List A) (i : ℕ) → i < length a → get_or (a ++ b) i d ≡ get_or a i d
get_or_left d [] b i h = absurd (omega arith)
get_or_left d (x ∷ a) b zero h = refl
get_or_left d (x ∷ a) b (suc i) h = get_or_left d a b i (omega arith)

get_or_right : {A : Type 0} (d : A) (a b : List A) (i n : ℕ) → n ≡ length a + i → get_or (a ++ b) n d ≡ get_or b i d
get_or_right d [] b i n e = let z : n ≡ i = omega arith in ap (λ (k : ℕ). get_or b k d) z
get_or_right d (x ∷ a) b i zero e = absurd (omega arith)
get_or_right d (x ∷ a) b i (suc n) e = get_or_right d a b i n (omega arith)

pub get_d_map : {A B : Type 0} (f : A → B) (d : A) (e : B) (xs : List A) (i : ℕ) → i < length xs → get_or (map f xs) i e ≡ f (get_or xs i d)
get_d_map f d e [] i h = absurd (omega arith)
get_d_map f d e (x ∷ xs) zero h = refl
get_d_map f d e (x ∷ xs) (suc i) h = get_d_map f d e xs i (omega arith)

-- ---- a pair's text

abbrev key_of_pair : Pair → List ℕ
key_of_pair p = p.element % 256 ∷ p.element / 256 % 256 ∷ length p.name % 256 ∷ length p.name / 256 % 256 ∷ (p.name ++ p.value)

record Small (p : Pair) : Type 0 where
  element_small : p.element < 65536
  name_small : length p.name < 65536

-- numbers of two bytes
two_bytes : (x y : ℕ) → x < 65536 → y < 65536 → x % 256 ≡ y % 256 → x / 256 % 256 ≡ y / 256 % 256 → x ≡ y
two_bytes x y h g a b = omega arith

module _ (p q : Pair) (sp : Small p) (sq : Small q) where
  module _ (e : key_of_pair p ≡ key_of_pair q) where
    byte : (i : ℕ) → get_or (key_of_pair p) i 0 ≡ get_or (key_of_pair q) i 0
    byte i = ap (λ (l : List ℕ). get_or l i 0) e

    same_element : p.element ≡ q.element
    same_element = two_bytes p.element q.element sp.element_small sq.element_small (byte 0) (byte 1)

    same_length : length p.name ≡ length q.name
    same_length = two_bytes (length p.name) (length q.name) sp.name_small sq.name_small (byte 2) (byte 3)

    same_tail : p.name ++ p.value ≡ q.name ++ q.value
    same_tail = ap (drop 4) e

    same_name : p.name ≡ q.name
    same_name = sym (take_at p.name p.value (length q.name) same_length) ∙ ap (take (length q.name)) same_tail ∙ take_at q.name q.value (length q.name) refl

    same_value : p.value ≡ q.value
    same_value = sym (drop_at p.name p.value (length q.name) same_length) ∙ ap (drop (length q.name)) same_tail ∙ drop_at q.name q.value (length q.name) refl

    same_test : same_pair q p ≡ true
    same_test =
        ap₂ ◌&&◌ (ap₂ ◌&&◌ (eq-eqb q.element p.element (sym same_element)) (subst (λ (t : List ℕ). same_text q.name t ≡ true) (sym same_name) (same_self q.name)))
        (subst (λ (t : List ℕ). same_text q.value t ≡ true) (sym same_value) (same_self q.value))

  -- the same texts, the same pairs
  key_tells : same_text (key_of_pair p) (key_of_pair q) ≡ same_pair q p
  key_tells =
      by_test (λ t. same_text (key_of_pair p) (key_of_pair q) ≡ t → t ≡ same_pair q p) (same_text (key_of_pair p) (key_of_pair q)) (λ h e. sym (same_test (same_is (key_of_pair p) (key_of_pair q) e)))
      (λ h e. by_test (λ t. same_pair q p ≡ t → false ≡ t) (same_pair q p) (λ g f. absurd (no (key_of_pair p) (key_of_pair q) (same_key f) e)) (λ g f. refl) refl) refl
    where
      no : (x y : List ℕ) → x ≡ y → same_text x y ≡ false → ⊥
      no x y q e = clash (sym (same_self x) ∙ ap (same_text x) q ∙ e)

      same_key : same_pair q p ≡ true → key_of_pair p ≡ key_of_pair q
      same_key f =
          let (x, v) = both (eqb q.element p.element && same_text q.name p.name) (same_text q.value p.value) f in
          let (n, m) = both (eqb q.element p.element) (same_text q.name p.name) x in
          let ee : q.element ≡ p.element = eqb-true q.element p.element n in
          let en : q.name ≡ p.name = same_is q.name p.name m in
          let ev : q.value ≡ p.value = same_is q.value p.value v in
          rw (ee, en, ev) refl

element_tells : (p : Pair) → Small p → element_of (key_of_pair p) ≡ p.element
element_tells p s = omega (arith, s.element_small)

-- ---- a row's text

-- a part that lies in a front of the line
cut_text : (line : List ℕ) (end a n : ℕ) → a + n ≤ length (take end line) → text_at (take end line) a n ≡ text_at line a n
cut_text [] zero a n h = refl
cut_text [] (suc end) a n h = refl
cut_text (b ∷ line) zero zero zero h = refl
cut_text (b ∷ line) zero zero (suc n) h = absurd (omega arith)
cut_text (b ∷ line) zero (suc a) n h = absurd (omega arith)
cut_text (b ∷ line) (suc end) zero zero h = refl
cut_text (b ∷ line) (suc end) zero (suc n) h = ap (λ (l : List ℕ). b ∷ l) (cut_text line end 0 n (omega arith))
cut_text (b ∷ line) (suc end) (suc a) n h = cut_text line end a n (omega arith)

text_length : (line : List ℕ) (a n : ℕ) → a + n ≤ length line → length (text_at line a n) ≡ n
text_length line a n h = length-take-le n (drop a line) (omega (arith, length-drop a line))

module _ (line : List ℕ) (end ids : ℕ) (row : List ℕ) (r : RowIn (take end line) ids row) where
  name_is : text_at (take end line) (get_or row 1 0) (get_or row 2 0) ≡ text_at line (get_or row 1 0) (get_or row 2 0)
  name_is = cut_text line end (get_or row 1 0) (get_or row 2 0) r.name_in

  value_is : text_at (take end line) (get_or row 3 0) (get_or row 4 0) ≡ text_at line (get_or row 3 0) (get_or row 4 0)
  value_is = cut_text line end (get_or row 3 0) (get_or row 4 0) r.value_in

  len_is : get_or row 2 0 ≡ length (pair_of line row).name
  len_is = sym (ap length (sym name_is) ∙ text_length (take end line) (get_or row 1 0) (get_or row 2 0) r.name_in)

  row_key : key_text (take end line) row ≡ key_of_pair (pair_of line row)
  unfolding key_text head_text tail_text short
  row_key =
      ap₂ (λ (n : ℕ) (t : List ℕ). get_or row 0 0 % 256 ∷ get_or row 0 0 / 256 % 256 ∷ n % 256 ∷ n / 256 % 256 ∷ t) len_is
      (ap₂ (λ (u v : List ℕ). u ++ unescaped true v) name_is value_is)

  row_small : ids < 65536 → length (take end line) ≤ line_limit → Small (pair_of line row)
  row_small h s = record { element_small = omega (arith, r.below); name_small = omega (arith, len_is, r.name_in) }

-- ---- how often a pair occurs

tally_front : (t : ℕ → Bool) (from n : ℕ) → tally t from (suc n) ≡ (if t from then 1 else 0) + tally t (from + 1) n
unfolding tally
tally_front t from zero = let z : from + 0 ≡ from = omega arith in rw z (omega arith)
tally_front t from (suc n) =
    let z : from + suc n ≡ from + 1 + n = omega arith in
    ap (λ (x : ℕ). x + (if t (from + suc n) then 1 else 0)) (tally_front t from n) ∙ rw z (omega arith)

occurs_tally : (p : Pair) (qs : List Pair) (t : ℕ → Bool) (from : ℕ) → ((j : ℕ) → j < length qs → t (from + j) ≡ same_pair p (get_or qs j blank_pair)) → tally t from (length qs) ≡ occurs p qs
unfolding tally occurs
occurs_tally p [] t from h = refl
occurs_tally p (q ∷ qs) t from h =
    let z : from + 0 ≡ from = omega arith in
    let s : (j : ℕ) → from + 1 + j ≡ from + suc j = λ j. omega arith in
    tally_front t from (length qs)
    ∙ ap₂ (λ (b : Bool) (n : ℕ). (if b then 1 else 0) + n) (sym (ap t z) ∙ h 0 (omega arith)) (occurs_tally p qs t (from + 1) (λ j l. ap t (s j) ∙ h (suc j) (omega arith)))
    ∙ by_test (λ b. (if b then 1 else 0) + occurs p qs ≡ (if b then suc (occurs p qs) else occurs p qs)) (same_pair p q) (λ e. omega arith) (λ e. omega arith)

-- ---- two lines

module _ (line₁ : List ℕ) (a : Line) (e₁ : List (List ℕ)) (ra : Readable line₁ a e₁) (line₂ : List ℕ) (b : Line) (e₂ : List (List ℕ)) (rb : Readable line₂ b e₂) where
  abbrev P : List Pair
  P = (seen_by line₁ a e₁).pairs

  abbrev Q : List Pair
  Q = (seen_by line₂ b e₂).pairs

  abbrev rows₁ : List (List ℕ)
  rows₁ = rows_in_line line₁ a e₁

  abbrev rows₂ : List (List ℕ)
  rows₂ = rows_in_line line₂ b e₂

  abbrev ks : List (List ℕ)
  ks = keys_of (take a.end line₁) rows₁ (take b.end line₂) rows₂

  len₁ : length P ≡ length rows₁
  len₁ = length-map rows₁ (pair_of line₁)

  len₂ : length Q ≡ length rows₂
  len₂ = length-map rows₂ (pair_of line₂)

  pair₁ : (i : ℕ) → i < length rows₁ → get_or P i blank_pair ≡ pair_of line₁ (get_or rows₁ i [])
  pair₁ i h = get_d_map (pair_of line₁) [] blank_pair rows₁ i h

  pair₂ : (i : ℕ) → i < length rows₂ → get_or Q i blank_pair ≡ pair_of line₂ (get_or rows₂ i [])
  pair₂ i h = get_d_map (pair_of line₂) [] blank_pair rows₂ i h

  key₁ : (i : ℕ) → i < length P → get_or ks i [] ≡ key_of_pair (get_or P i blank_pair)
  key₁ i h =
      let g : i < length rows₁ = omega (arith, len₁) in
      get_or_left [] (map (key_text (take a.end line₁)) rows₁) (map (key_text (take b.end line₂)) rows₂) i (omega (arith, length-map rows₁ (key_text (take a.end line₁))))
      ∙ get_d_map (key_text (take a.end line₁)) [] [] rows₁ i g
      ∙ row_key line₁ a.end a.ids (get_or rows₁ i []) (ra.rows_in i g)
      ∙ ap key_of_pair (sym (pair₁ i g))

  key₂ : (i : ℕ) → i < length Q → get_or ks (length P + i) [] ≡ key_of_pair (get_or Q i blank_pair)
  key₂ i h =
      let g : i < length rows₂ = omega (arith, len₂) in
      get_or_right [] (map (key_text (take a.end line₁)) rows₁) (map (key_text (take b.end line₂)) rows₂) i (length P + i) (omega (arith, len₁, length-map rows₁ (key_text (take a.end line₁))))
      ∙ get_d_map (key_text (take b.end line₂)) [] [] rows₂ i g
      ∙ row_key line₂ b.end b.ids (get_or rows₂ i []) (rb.rows_in i g)
      ∙ ap key_of_pair (sym (pair₂ i g))

  small₁ : (i : ℕ) → i < length P → Small (get_or P i blank_pair)
  small₁ i h =
      let g : i < length rows₁ = omega (arith, len₁) in
      subst Small (sym (pair₁ i g)) (row_small line₁ a.end a.ids (get_or rows₁ i []) (ra.rows_in i g) ra.ids_few (omega (arith, length-take-le a.end line₁ ra.end_in, ra.end_in, ra.short)))

  small₂ : (i : ℕ) → i < length Q → Small (get_or Q i blank_pair)
  small₂ i h =
      let g : i < length rows₂ = omega (arith, len₂) in
      subst Small (sym (pair₂ i g)) (row_small line₂ b.end b.ids (get_or rows₂ i []) (rb.rows_in i g) rb.ids_few (omega (arith, length-take-le b.end line₂ rb.end_in, rb.end_in, rb.short)))

  -- a text k that is a pair's: how often it occurs
  module _ (k : ℕ) (p : Pair) (sp : Small p) (ek : get_or ks k [] ≡ key_of_pair p) where
    test₁ : (i : ℕ) → i < length P → same_text (get_or ks (0 + i) []) (get_or ks k []) ≡ same_pair p (get_or P i blank_pair)
    test₁ i h =
        let z : 0 + i ≡ i = omega arith in
        ap₂ same_text (ap (λ (n : ℕ). get_or ks n []) z ∙ key₁ i h) ek ∙ key_tells (get_or P i blank_pair) p (small₁ i h) sp

    test₂ : (i : ℕ) → i < length Q → same_text (get_or ks (length P + i) []) (get_or ks k []) ≡ same_pair p (get_or Q i blank_pair)
    test₂ i h = ap₂ same_text (key₂ i h) ek ∙ key_tells (get_or Q i blank_pair) p (small₂ i h) sp

    odd_is : is_odd (λ j. get_or ks j []) (length P) (length P + length Q) k ≡ uneven (seen_by line₁ a e₁) (seen_by line₂ b e₂) p
    unfolding is_odd
    odd_is =
        let z : length P + length Q - length P ≡ length Q = omega arith in
        ap₂ (λ (x y : ℕ). not (eqb x y)) (occurs_tally p P (λ j. same_text (get_or ks j []) (get_or ks k [])) 0 test₁)
        (ap (tally (λ j. same_text (get_or ks j []) (get_or ks k [])) (length P)) z ∙ occurs_tally p Q (λ j. same_text (get_or ks j []) (get_or ks k [])) (length P) test₂)

  ids_length : (line : List ℕ) (e : List (List ℕ)) (n : ℕ) → n ≤ length e → length (map (id_of line) (take n e)) ≡ n
  ids_length line e n h = length-map (take n e) (id_of line) ∙ length-take-le n e h

  pub linked : Linked (seen_by line₁ a e₁) (seen_by line₂ b e₂) (is_odd (λ k. get_or ks k []) (length P) (length P + length Q)) (λ k. element_of (get_or ks k []))
  linked = record {
    odd₁ = λ j h. odd_is j (get_or P j blank_pair) (small₁ j h) (key₁ j h);
    odd₂ = λ j h. odd_is (length P + j) (get_or Q j blank_pair) (small₂ j h) (key₂ j h);
    element₁ = λ j h. ap element_of (key₁ j h) ∙ element_tells (get_or P j blank_pair) (small₁ j h);
    element₂ = λ j h. ap element_of (key₂ j h) ∙ element_tells (get_or Q j blank_pair) (small₂ j h);
    formed₁ = λ j h.
        let g : j < length rows₁ = omega (arith, len₁) in
        omega (arith, ap (λ (p : Pair). p.element) (pair₁ j g), (ra.rows_in j g).below, ids_length line₁ e₁ a.ids ra.listed.given);
    formed₂ = λ j h.
        let g : j < length rows₂ = omega (arith, len₂) in
        omega (arith, ap (λ (p : Pair). p.element) (pair₂ j g), (rb.rows_in j g).below, ids_length line₂ e₂ b.ids rb.listed.given);
  }

  pub least_linked : (r : Odd) → FirstOdd (take a.end line₁) rows₁ (take b.end line₂) rows₂ r
      → Least (is_odd (λ k. get_or ks k []) (length P) (length P + length Q)) (λ k. element_of (get_or ks k [])) (length P + length Q) r
  least_linked r f =
      subst (λ (m : ℕ). Least (is_odd (λ k. get_or ks k []) m (m + length Q)) (λ k. element_of (get_or ks k [])) (m + length Q) r) (sym len₁)
      (subst (λ (n : ℕ). Least (is_odd (λ k. get_or ks k []) (length rows₁) (length rows₁ + n)) (λ k. element_of (get_or ks k [])) (length rows₁ + n) r) (sym len₂) f.is)
