-- The first pass notes the places of the ids.
use Rattle.std.specs.Prelude.{Option, Some, None}
use Prim.Native.Nat.{ℕ, ◌+◌, ◌≤◌, ◌<◌}
use mathlib.Core.Path.{◌≡◌, refl, sym, ap, ap₂, ◌∙◌, subst}
use mathlib.Core.List.{List, [], ◌∷◌, ◌++◌}
use native.Mathlib.Decide.{ℕ_discrete}
use native.Mathlib.Omega.{arith}
use lib.ListN.{length, get_or, set, take, drop, length-append, length-drop, length-set, length-map, get_or-append}
use lib.Seq.{take-append_seam, set_out, get_or-set_same, get_or-set_other, get_or-append_seam}
use Rattle.base.specs.Texts.{text_at}
use Rattle.record.specs.Limits.{line_limit}
use Rattle.grammar.specs.Line.{Element, ids_of, each_then, param_then}
use Rattle.grammar.specs.Parse.{many, element}
use Rattle.grammar.specs.Parse.Parsed.{found}
use Rattle.grammar.proofs.Readers.{not_found}
use Rattle.grammar.proofs.Data.{element_reads}
use Rattle.strict_data.specs.Sizes.{item_of}
use Rattle.strict_data.specs.Ids.{Noted, Noting, Rowed, Listed}
use Rattle.strict_data.specs.declared.Item.{Item}
use Rattle.strict_data.proofs.Answers.{FindsItem, finds_item, misses_item}
use Rattle.strict_data.proofs.Counting.{passed_all, passed_other, passed_bad, Elements, elements_start, start_items, elements_next_lem, next_items}

-- ---- one id

-- an entry that a table does not have
pub note_out : (table : List ℕ) (k n x : ℕ) → length table ≡ n → n ≤ k → table ≡ set table k x
note_out table k n x e h = sym (set_out table k x (omega arith))

pub note_inside : (table : List ℕ) (k n : ℕ) → length table ≡ n → k < n → k < length table
note_inside table k n e h = omega arith

-- ---- the place of an element's id

module _ (s : List ℕ) (i : ℕ) (x : Element) (m n : ℕ) (f : element (drop (i + 1) s) ≡ found x m) (e : n ≡ length x.id) where
  split : drop (i + 1) s ≡ x.id ++ each_then param_then x.params (93 ∷ drop m (drop (i + 1) s))
  split = (element_reads.sound (drop (i + 1) s) x m f).split

  place_named : text_at s (i + 1) n ≡ x.id
  place_named = ap₂ take e split ∙ take-append_seam x.id _

  place_inside : i < length s → i + 1 + n ≤ length s
  place_inside h = omega (arith, ap length split, length-append x.id (each_then param_then x.params (93 ∷ drop m (drop (i + 1) s))), length-drop (i + 1) s)

  id_short : n ≤ 32
  id_short = omega (arith, e, (element_reads.sound (drop (i + 1) s) x m f).ok.id_ok.at_most)

ids_more : (es : List Element) (x : Element) → ids_of (es ++ x ∷ []) ≡ ids_of es ++ x.id ∷ []
ids_more [] x = refl
ids_more (e ∷ es) x = ap (λ (l : List (List ℕ)). e.id ∷ l) (ids_more es x)

module _ (s : List ℕ) (es : List Element) (starts lens : List ℕ) (w : Rowed s es starts lens) (x : Element) (a b : ℕ) (named : text_at s a b ≡ x.id)
    (inside : a + b ≤ length s) (n : ℕ) (e : n ≡ length es) where
  id_at_lem : (k : ℕ) → k < length es → get_or (ids_of (es ++ x ∷ [])) k [] ≡ get_or (ids_of es) k []
  id_at_lem k h = ap (λ (l : List (List ℕ)). get_or l k []) (ids_more es x) ∙ get_or-append (ids_of es) (x.id ∷ []) [] k (simp length-map h)

  id_last : get_or (ids_of (es ++ x ∷ [])) n [] ≡ x.id
  id_last =
      let q : n ≡ length (ids_of es) = e ∙ sym (length-map es (λ (y : Element). y.id)) in
      ap₂ (λ (l : List (List ℕ)) (k : ℕ). get_or l k []) (ids_more es x) q ∙ get_or-append_seam (ids_of es) x.id [] []

  -- of each place in the tables
  each : (P : ℕ → ℕ → ℕ → Type 0) → P n a b → ((k : ℕ) → k < length es → k < length starts → P k (get_or starts k 0) (get_or lens k 0))
      → (k : ℕ) → k < length (es ++ x ∷ []) → k < length (set starts n a) → P k (get_or (set starts n a) k 0) (get_or (set lens n b) k 0)
  each P p q k h l = go (ℕ_discrete k n)
    where
      room : k < length starts
      room = omega (arith, length-set starts n a)

      go : Dec (k ≡ n) → P k (get_or (set starts n a) k 0) (get_or (set lens n b) k 0)
      go (yes z) = rw (z, get_or-set_same starts n a 0 (rw z at room), get_or-set_same lens n b 0 (omega (arith, z, room, w.one_size))) p
      go (no z) = rw (get_or-set_other starts n k a 0 z, get_or-set_other lens n k b 0 z) (q k (omega (arith, simp length-append at h)) room)

  rowed_more : Rowed s (es ++ x ∷ []) (set starts n a) (set lens n b)
  rowed_more = record {
    one_size = length-set lens n b ∙ w.one_size ∙ sym (length-set starts n a);
    named = each (λ k u v. text_at s u v ≡ get_or (ids_of (es ++ x ∷ [])) k []) (named ∙ sym id_last) (λ k h l. w.named k h l ∙ sym (id_at_lem k h));
    inside = each (λ k u v. u + v ≤ length s) inside w.inside;
  }

-- ---- the walk

pub record Listing (s : List ℕ) (i n k : ℕ) (starts₀ lens₀ starts lens : List ℕ) : Type 0 where
  pub counting : Elements s i n k
  pub rowed : Rowed s counting.items starts lens
  pub starts_kept : length starts ≡ length starts₀
  pub lens_kept : length lens ≡ length lens₀
  pub short : length s ≤ line_limit

pub listing_start : (s starts lens : List ℕ) → Noting s starts lens → Listing s 0 0 0 starts lens starts lens
listing_start s starts lens a =
    let none : Rowed s [] starts lens = record { one_size = a.one_size; named = λ k h l. absurd (omega arith); inside = λ k h l. absurd (omega arith) } in
    record {
      counting = elements_start s;
      rowed = subst (λ (es : List Element). Rowed s es starts lens) (sym (start_items s)) none;
      starts_kept = refl;
      lens_kept = refl;
      short = a.short;
    }

module _ (s : List ℕ) (i n k : ℕ) (starts₀ lens₀ starts lens : List ℕ) (w : Listing s i n k starts₀ lens₀ starts lens) where
  listed_here : many 91 element s ≡ found w.counting.items i → Listed s (many 91 element s) starts₀ lens₀ starts lens
  listed_here e = record {
    starts_kept = w.starts_kept;
    lens_kept = w.lens_kept;
    rows = λ es m q. let z : w.counting.items ≡ es = cc in subst (λ (l : List Element). Rowed s l starts lens) z w.rowed;
  }

  pub listing_out : length s ≤ i → Listed s (many 91 element s) starts₀ lens₀ starts lens
  listing_out h = listed_here (passed_all 90 element s w.counting.items i w.counting.passed h)

  pub listing_other : (get_or s i 0 ≡ 91 → ⊥) → Listed s (many 91 element s) starts₀ lens₀ starts lens
  listing_other e = listed_here (passed_other 90 element s w.counting.items i w.counting.passed e)

  module _ (e : get_or s i 0 ≡ 91) (u : List ℕ) (eu : u ≡ drop (i + 1) s) (g : Option Item) (eg : g ≡ item_of (element u)) where
    pub listing_bad : g ≡ None → Listed s (many 91 element s) starts₀ lens₀ starts lens
    listing_bad h =
        let b = passed_bad 90 element s w.counting.items i w.counting.passed e (ap element (sym eu) ∙ misses_item (element u) g eg h) in
        record { starts_kept = w.starts_kept; lens_kept = w.lens_kept; rows = λ es m q. not_found (sym b ∙ q) }

    module _ (x : Item) (h : g ≡ Some x) (l : i < length s) where
      item : FindsItem (element u) x.len x.params x.id
      item = finds_item (element u) g eg h

      item_is : element (drop (i + 1) s) ≡ found item.value x.len
      item_is = ap element (sym eu) ∙ item.is

      pub listing_notes : Noted starts lens (i + 1) x.id
      listing_notes = record {
        one_size = w.rowed.one_size;
        start_fits = omega (arith, l, w.short);
        len_fits = omega (arith, id_short s i item.value x.len x.id item_is item.named);
      }

      module _ (starts' lens' : List ℕ) (es : starts' ≡ set starts n (i + 1)) (el : lens' ≡ set lens n x.id) where
        pub listing_next : Listing s (i + 1 + x.len) (n + 1) (k + x.params) starts₀ lens₀ starts' lens'
        unfolding item
        listing_next = record {
          counting = elements_next_lem s i n k w.counting e u eu g eg x h l;
          rowed = rw (next_items s i n k w.counting e u eu g eg x h l, es, el) (rowed_more s w.counting.items starts lens w.rowed item.value (i + 1) x.id
              (place_named s i item.value x.len x.id item_is item.named) (place_inside s i item.value x.len x.id item_is item.named l) n w.counting.counted);
          starts_kept = ap length es ∙ length-set starts n (i + 1) ∙ w.starts_kept;
          lens_kept = ap length el ∙ length-set lens n x.id ∙ w.lens_kept;
          short = w.short;
        }

pub ruleset listing_laws = (listing_start, listing_out, listing_other, listing_bad, listing_notes, listing_next)
