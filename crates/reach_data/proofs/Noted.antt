-- The rows that a walk notes: what they say of the line, and what is told by the first that repeats.
use Rattle.std.specs.Prelude.{if◌then◌else◌, Option, Some, None, Result, Ok, Err}
use Prim.Native.Nat.{ℕ, zero, suc, ◌+◌, ◌-◌, ◌*◌, ◌≤◌, ◌<◌}
use mathlib.Core.Path.{◌≡◌, refl, sym, ap, ap₂, ◌∙◌, subst}
use mathlib.Core.Bool.{Bool, true, false}
use mathlib.Core.List.{List, [], ◌∷◌}
use native.Mathlib.Omega.{arith}
use lib.ListN.{length, get_or, set, take, drop, replicate, length-replicate, length-drop, length-set, length-append}
use lib.Seq.{take-append_seam, take-take, get_or-set_same, get_or-set_other}
use lib.Dec.{leb, eqb}
use borrow.Author.Tests.{le-leb, lt-leb, leb-true, leb-false, eqb-true, eqb-false}
use Rattle.base.specs.Choose.{is_at}
use Rattle.base.specs.Runs.{run}
use Rattle.base.specs.Texts.{Differ}
use Rattle.base.proofs.Tests.{by_test}
use Rattle.base.proofs.Parts.{at_below}
use Rattle.base.proofs.Runs.{run_le, run_text}
use Rattle.record.specs.Limits.{line_limit}
use Rattle.distinct.specs.Distinct.{id_of, Repeated, FirstRepeat}
use Rattle.distinct.specs.Tree.{Asked}
use Rattle.grammar.specs.Abnf.{sd_name_byte, Repeat}
use Rattle.grammar.specs.Line.{Param, Element, each_then, param_then}
use Rattle.grammar.specs.Parse.{closed, many, sd_name, param, element, element_of, into, ◌next◌}
use Rattle.grammar.specs.Parse.Parsed.{found}
use Rattle.grammar.proofs.Data.{element_reads}
use Rattle.viable.specs.Ids.{is_used, is_shut}
use Rattle.viable.proofs.Data.{no_name}
use Rattle.viable.proofs.Walks.{got_past}
use Rattle.reach_data.specs.Pieces.{plain_far, plain_at}
use Rattle.reach_data.specs.Rows.{each_at, len_of, id_len, Elements, Noting, Noted, Ends, Listed, Beyond, Walked, Leaves, used_to, near_of, shut_at, id_end, Named, Spacious, Judging, Judged, Tells}
use Rattle.reach_data.specs.Rows.Elements.{none, more}
use Rattle.reach_data.specs.Rows.Ends.{ended, broke}
use Rattle.reach_data.proofs.Each.{used_length, used_yes, differ_less, differ_new, each_end, each_on, each_used, each_plain}

-- ---- an element that was read

record Read (x : List ℕ) (e : Element) (n : ℕ) : Type 0 where
  len : id_len x ≡ length e.id
  text : take (id_len x) x ≡ e.id
  name : Repeat 1 32 sd_name_byte e.id
  size : 2 ≤ n

params_some : (ps : List Param) (r : List ℕ) → 1 ≤ length (each_then param_then ps (93 ∷ r))
params_some [] r = omega arith
params_some (p ∷ ps) r = omega arith

read_of : (x : List ℕ) (e : Element) (n : ℕ) → element x ≡ found e n → Read x e n
read_of x e n f =
    let g = element_reads.sound x e n f in
    let r = g.ok.id_ok in
    let t = each_then param_then e.params (93 ∷ drop n x) in
    let u : run sd_name_byte x ≡ length e.id = ap (run sd_name_byte) g.split ∙ run_text sd_name_byte e.id t r.all (no_name e.params (drop n x) g.ok.params_ok tt) in
    let l : id_len x ≡ length e.id = rw (le-leb (run sd_name_byte x) 32 (omega (arith, r.at_most))) u in
    record {
      len = l;
      text = ap₂ take l g.split ∙ take-append_seam e.id t;
      name = r;
      size = omega (arith, g.size, length-append e.id (each_then param_then e.params (93 ∷ [])), r.at_least, params_some e.params []);
    }

len_in : (x : List ℕ) → id_len x ≤ length x
len_in x =
    let l = run_le sd_name_byte x in
    by_test (λ b. leb (run sd_name_byte x) 32 ≡ b → (if b then run sd_name_byte x else 32) ≤ length x) (leb (run sd_name_byte x) 32)
    (λ _ b. l) (λ _ b. let m = leb-false (run sd_name_byte x) 32 b in omega arith) refl

len_most : (x : List ℕ) → id_len x ≤ 32
len_most x =
    by_test (λ b. leb (run sd_name_byte x) 32 ≡ b → (if b then run sd_name_byte x else 32) ≤ 32) (leb (run sd_name_byte x) 32)
    (λ _ b. leb-true (run sd_name_byte x) 32 b) (λ _ b. omega arith) refl

pub len_over : (n : ℕ) → 32 < n → 32 ≡ len_of n
len_over n h = rw (lt-leb n 32 h)

pub len_is : (n : ℕ) → n ≤ 32 → n ≡ len_of n
len_is n h = rw (le-leb n 32 h)

pub ruleset len_laws = (len_over, len_is)

-- ---- rows

module _ (s starts lens : List ℕ) (from : ℕ) where
  abbrev id_at : ℕ → List ℕ
  id_at = id_of s starts lens

  -- an id has row j
  pub record RowAt (j : ℕ) : Type 0 where
    pub at : ℕ
    pub before : Elements s starts lens from j at
    pub lead : is_at s at 91 ≡ true
    pub start : get_or starts j 0 ≡ at + 1
    pub len : get_or lens j 0 ≡ id_len (drop (at + 1) s)

  row_text_lem : (j : ℕ) (r : RowAt j) → id_at j ≡ take (id_len (drop (r.at + 1) s)) (drop (r.at + 1) s)
  row_text_lem j r = ap₂ (λ (a b : ℕ). take b (drop a s)) r.start r.len

  row_in : (j : ℕ) → RowAt j → get_or starts j 0 + get_or lens j 0 ≤ length s
  row_in j r = omega (arith, r.start, r.len, len_in (drop (r.at + 1) s), length-drop (r.at + 1) s, at_below s r.at 90 r.lead)

  row_before : {k at : ℕ} → Elements s starts lens from k at → (j : ℕ) → j < k → RowAt j
  row_before none j l = absurd (omega arith)
  row_before (more {k = k} {at = at} e n w h f a b) j l =
      by_test (λ t. eqb j k ≡ t → RowAt j) (eqb j k)
      (λ _ t. subst RowAt (sym (eqb-true j k t)) (record { at = at; before = w; lead = h; start = a; len = b }))
      (λ _ t. row_before w j (omega (arith, eqb-false j k t)))
      refl

  row_of_lem : {n : ℕ} {w : (Result ℕ ℕ)} → Ends s starts lens from n w → (j : ℕ) → j < n → RowAt j
  row_of_lem (ended w h e) j l = row_before w j l
  row_of_lem (broke {k = k} {at = at} w h a b c i g e) j l =
      by_test (λ t. eqb j k ≡ t → RowAt j) (eqb j k)
      (λ _ t. subst RowAt (sym (eqb-true j k t)) (record { at = at; before = w; lead = h; start = a; len = b }))
      (λ _ t. row_before w j (omega (arith, eqb-false j k t)))
      refl

  -- the rows before one are ids
  names_before : {k at : ℕ} → Elements s starts lens from k at → (j : ℕ) → j < k → Repeat 1 32 sd_name_byte (id_at j)
  names_before none j l = absurd (omega arith)
  names_before (more {k = k} {at = at} e n w h f a b) j l =
      let r = read_of (drop (at + 1) s) e n f in
      let q : id_at k ≡ e.id = row_text_lem k (record { at = at; before = w; lead = h; start = a; len = b }) ∙ r.text in
      by_test (λ t. eqb j k ≡ t → Repeat 1 32 sd_name_byte (id_at j)) (eqb j k)
      (λ _ t. subst (Repeat 1 32 sd_name_byte) (sym (ap id_at (eqb-true j k t) ∙ q)) r.name)
      (λ _ t. names_before w j (omega (arith, eqb-false j k t)))
      refl

  -- three bytes each
  elements_size : {k at : ℕ} → Elements s starts lens from k at → from + 3 * k ≤ at
  elements_size none = omega arith
  elements_size (more {k = k} {at = at} e n w h f a b) = omega (arith, elements_size w, (read_of (drop (at + 1) s) e n f).size)

  -- ---- where the ids differ, the walk is the same whatever they are

  few : {k at : ℕ} → Elements s starts lens from k at → is_at s at 91 ≡ true → length s ≤ line_limit → length (used_to id_at k) < 8281
  few {k = k} {at = at} w h l = omega (arith, used_length id_at k, elements_size w, at_below s at 90 h)

  walk_to : {k at : ℕ} → Elements s starts lens from k at → Differ id_at k → length s ≤ line_limit → each_at [] s from ≡ each_at (used_to id_at k) s at
  walk_to none d l = refl
  walk_to (more {k = k} {at = at} e n w h f a b) d l =
      let r = read_of (drop (at + 1) s) e n f in
      let q : id_at k ≡ e.id = row_text_lem k (record { at = at; before = w; lead = h; start = a; len = b }) ∙ r.text in
      let v : is_used (used_to id_at k) e.id ≡ false = ap (is_used (used_to id_at k)) (sym q) ∙ differ_new id_at k d in
      walk_to w (differ_less id_at k (suc k) (omega arith) d) l
      ∙ each_on (used_to id_at k) s at h (few w h l) e n f v
      ∙ ap (λ (i : List ℕ). each_at (i ∷ used_to id_at k) s (at + 1 + n)) (sym q)

  -- no id repeats
  all_differ : {n : ℕ} {w : (Result ℕ ℕ)} → Ends s starts lens from n w → Differ id_at n → length s ≤ line_limit → w ≡ each_at [] s from
  all_differ {n = n} (ended {at = at} v h e) d l = e ∙ sym (walk_to v d l ∙ each_end (used_to id_at n) s at h)
  all_differ {w = w} (broke {k = k} {at = at} v h a b c j g e) d l =
      let x = drop (at + 1) s in
      let r : RowAt k = record { at = at; before = v; lead = h; start = a; len = b } in
      let u : is_used (used_to id_at k) (take (id_len x) x) ≡ false = ap (is_used (used_to id_at k)) (sym (row_text_lem k r)) ∙ differ_new id_at k (differ_less id_at (suc k) _ (omega arith) d) in
      sym (walk_to v (differ_less id_at k _ (omega arith) d) l ∙ each_plain (used_to id_at k) s at h (few v h l) u w e j g)

  -- one does
  one_repeats : (j : ℕ) → RowAt j → Differ id_at j → Repeated id_at j → length s ≤ line_limit → Err (id_end s starts lens j) ≡ each_at [] s from
  one_repeats j r d p l =
      let at = r.at in
      let x = drop (at + 1) s in
      let t = row_text_lem j r in
      let u : is_used (used_to id_at j) (take (id_len x) x) ≡ true = ap (is_used (used_to id_at j)) (sym t) ∙ used_yes id_at j p.earlier (id_at j) p.is_earlier p.is_same in
      let z : id_end s starts lens j ≡ at + 1 + near_of (id_len x) (is_shut (used_to id_at j) (take 31 x)) = ap₂ ◌+◌ r.start (near_same t) in
      ap Err z ∙ sym (walk_to r.before d l ∙ each_used (used_to id_at j) s at r.lead (few r.before r.lead l) u)
    where
      near_same : id_at j ≡ take (id_len (drop (r.at + 1) s)) (drop (r.at + 1) s)
          → near_of (get_or lens j 0) (shut_at s starts lens j) ≡ near_of (id_len (drop (r.at + 1) s)) (is_shut (used_to id_at j) (take 31 (drop (r.at + 1) s)))
      near_same t =
          ap (λ (n : ℕ). near_of n (shut_at s starts lens j)) r.len
          ∙ by_test (λ b. leb (id_len (drop (r.at + 1) s)) 30 ≡ b
          → (if b then id_len (drop (r.at + 1) s) else if shut_at s starts lens j then 30 else 31)
          ≡ (if b then id_len (drop (r.at + 1) s) else if is_shut (used_to id_at j) (take 31 (drop (r.at + 1) s)) then 30 else 31)) (leb (id_len (drop (r.at + 1) s)) 30)
          (λ _ b. refl)
          (λ _ b.
          let m = leb-false (id_len (drop (r.at + 1) s)) 30 b in
          let q : take 31 (id_at j) ≡ take 31 (drop (r.at + 1) s) = ap (take 31) t ∙ take-take 31 (id_len (drop (r.at + 1) s)) (drop (r.at + 1) s) (omega arith) in
          ap (λ (y : List ℕ). if is_shut (used_to id_at j) y then 30 else 31) q)
          refl

-- ---- the walk

-- rows that are noted later leave those before as they are
kept : (s starts lens starts' lens' : List ℕ) (from : ℕ) {k at : ℕ} → ((j : ℕ) → j < k → get_or starts' j 0 ≡ get_or starts j 0) → ((j : ℕ) → j < k → get_or lens' j 0 ≡ get_or lens j 0)
    → Elements s starts lens from k at → Elements s starts' lens' from k at
kept s starts lens starts' lens' from p q none = none
kept s starts lens starts' lens' from p q (more {k = k} e n w h f a b) =
    more e n (kept s starts lens starts' lens' from (λ j l. p j (omega arith)) (λ j l. q j (omega arith)) w) h f (p k (omega arith) ∙ a) (q k (omega arith) ∙ b)

pub record Walking (s : List ℕ) (from i k : ℕ) (starts₀ lens₀ starts lens : List ℕ) : Type 0 where
  pub elements : Elements s starts lens from k i
  pub room : k ≤ length starts
  pub one_size : length lens ≡ length starts
  pub starts_kept : length starts ≡ length starts₀
  pub lens_kept : length lens ≡ length lens₀
  pub short : length s ≤ line_limit

pub walking_start : (s starts lens : List ℕ) (from : ℕ) → Noting s starts lens → Walking s from from 0 starts lens starts lens
walking_start s starts lens from a =
    record { elements = none; room = omega arith; one_size = a.one_size; starts_kept = refl; lens_kept = refl; short = a.short }

module _ (s : List ℕ) (from i k : ℕ) (starts₀ lens₀ starts lens : List ℕ) (w : Walking s from i k starts₀ lens₀ starts lens) (t : Bool) (et : t ≡ is_at s i 91) where
  pub walk_end : t ≡ false → Leaves s starts₀ lens₀ starts lens from (Some (k, Ok i))
  walk_end h = record { walked = record { ends = ended w.elements (sym et ∙ h) refl; room = w.room }; starts_kept = w.starts_kept; lens_kept = w.lens_kept }

  module _ (h : t ≡ true) where
    here : i < length s
    here = at_below s i 90 (sym et ∙ h)

    pub walk_full : k ≡ length starts → Leaves s starts₀ lens₀ starts lens from None
    walk_full e =
        let l = here in
        record { walked = record { many = omega (arith, elements_size s starts lens from w.elements, e) }; starts_kept = w.starts_kept; lens_kept = w.lens_kept }

    module _ (open_row : k ≡ length starts → ⊥) (end : ℕ) (ee : end ≡ i + 1 + run sd_name_byte (drop (i + 1) s)) (m : ℕ) (el₀ : m ≡ len_of (end - (i + 1))) where
      em : m ≡ id_len (drop (i + 1) s)
      em = el₀ ∙ ap len_of (let z : end - (i + 1) ≡ run sd_name_byte (drop (i + 1) s) = omega arith in z)

      pub walk_notes : Noted starts lens k (i + 1) m
      walk_notes =
          let l = here in
          record {
            one_size = w.one_size;
            room = omega (arith, w.room);
            start_fits = omega (arith, w.short);
            len_fits = omega (arith, em, len_most (drop (i + 1) s));
          }

      module _ (starts' lens' : List ℕ) (es : starts' ≡ set starts k (i + 1)) (el : lens' ≡ set lens k m) where
        same_starts : (j : ℕ) → j < k → get_or starts' j 0 ≡ get_or starts j 0
        same_starts j l = ap (λ (x : List ℕ). get_or x j 0) es ∙ get_or-set_other starts k j (i + 1) 0 (λ e. omega arith)

        same_lens : (j : ℕ) → j < k → get_or lens' j 0 ≡ get_or lens j 0
        same_lens j l = ap (λ (x : List ℕ). get_or x j 0) el ∙ get_or-set_other lens k j m 0 (λ e. omega arith)

        before : Elements s starts' lens' from k i
        before = kept s starts lens starts' lens' from same_starts same_lens w.elements

        new_start : get_or starts' k 0 ≡ i + 1
        new_start = ap (λ (x : List ℕ). get_or x k 0) es ∙ get_or-set_same starts k (i + 1) 0 (omega (arith, w.room))

        new_len : get_or lens' k 0 ≡ id_len (drop (i + 1) s)
        new_len = ap (λ (x : List ℕ). get_or x k 0) el ∙ get_or-set_same lens k m 0 (omega (arith, w.room, w.one_size)) ∙ em

        starts_size : length starts' ≡ length starts
        starts_size = ap length es ∙ length-set starts k (i + 1)

        lens_size : length lens' ≡ length lens
        lens_size = ap length el ∙ length-set lens k m

        module _ (x : Result ℕ ℕ) (ex : x ≡ plain_at s (i + 1)) where
          pub walk_broke : (j : ℕ) → x ≡ Err j → Leaves s starts₀ lens₀ starts' lens' from (Some (k + 1, x))
          walk_broke j e =
              record {
                walked = record { ends = broke before (sym et ∙ h) new_start new_len refl j e ex; room = omega (arith, w.room, starts_size) };
                starts_kept = starts_size ∙ w.starts_kept;
                lens_kept = lens_size ∙ w.lens_kept;
              }

          module _ (n : ℕ) (e : x ≡ Ok n) where
            pub walk_less : length s - n < length s - i
            walk_less = let l = here in omega (arith, (got_past (sd_name next closed (many 32 param) 93) plain_far s (i + 1) x ex n e).sum)

            pub walk_next : Walking s from n (k + 1) starts₀ lens₀ starts' lens'
            unfolding element into
            walk_next =
                let g = got_past (sd_name next closed (many 32 param) 93) plain_far s (i + 1) x ex n e in
                let f : element (drop (i + 1) s) ≡ found (element_of g.value) g.bytes = rw g.is in
                let z : i + 1 + g.bytes ≡ n = sym g.sum in
                let v : Elements s starts' lens' from (suc k) (i + 1 + g.bytes) = more (element_of g.value) g.bytes before (sym et ∙ h) f new_start new_len in
                record {
                  elements = subst (λ (q : ℕ). Elements s starts' lens' from (k + 1) q) z (subst (λ (q : ℕ). Elements s starts' lens' from q (i + 1 + g.bytes)) (let y : suc k ≡ k + 1 = omega arith in y) v);
                  room = omega (arith, w.room, starts_size);
                  one_size = lens_size ∙ w.one_size ∙ sym starts_size;
                  starts_kept = starts_size ∙ w.starts_kept;
                  lens_kept = lens_size ∙ w.lens_kept;
                  short = w.short;
                }

-- the bytes of a name
pub name_less : (s : List ℕ) (at end : ℕ) → end ≡ at + run sd_name_byte (drop at s) → at ≤ end
name_less s at end e = omega arith

pub ruleset walk_laws = (name_less, walking_start, walk_end, walk_full, walk_notes, walk_broke, walk_less, walk_next)

-- ---- what is judged

module _ (s starts lens depths kids : List ℕ) (n : ℕ) (w : Result ℕ ℕ) (q : Judging s starts lens depths kids n w) where
  pub judge_asks : Asked s starts lens n depths kids
  judge_asks =
      let l = q.listed in
      let r = q.spacious.room in
      record {
        rows = record {
          starts_given = l.room;
          lens_given = omega (arith, l.room, q.spacious.noting.one_size);
          inside = λ j h. row_in s starts lens q.from j (row_of_lem s starts lens q.from l.ends j h);
        };
        room = record { few = omega (arith, r.few, l.room); depths_room = omega (arith, r.depths_room, l.room); slots_room = omega (arith, r.slots_room, l.room) };
        clear = q.spacious.clear;
      }

  module _ (j : ℕ) (f : FirstRepeat (id_of s starts lens) n j) where
    pub judge_same : j ≡ n → Judged s starts lens n w w
    judge_same e = record { is = λ from l. all_differ s starts lens from l.ends (subst (Differ (id_of s starts lens)) e f.differ) q.spacious.noting.short }

    module _ (o : j ≡ n → ⊥) where
      below : j < n
      below = omega (arith, f.inside)

      pub judge_named : Named s starts lens j
      judge_named =
          let l = q.listed in
          let r = row_of_lem s starts lens q.from l.ends j below in
          record {
            rows = record {
              starts_given = omega (arith, l.room, below);
              lens_given = omega (arith, l.room, below, q.spacious.noting.one_size);
              inside = λ i h. row_in s starts lens q.from i (row_of_lem s starts lens q.from l.ends i (omega (arith, below)));
            };
            names = names_before s starts lens q.from r.before;
          }

      pub judge_repeat : (e : ℕ) → e ≡ id_end s starts lens j → Judged s starts lens n w (Err e)
      judge_repeat e z =
          record { is = λ from l. ap Err z ∙ one_repeats s starts lens from j (row_of_lem s starts lens from l.ends j below) f.differ (f.repeated below) q.spacious.noting.short }

pub ruleset judge_laws = (judge_asks, judge_same, judge_named, judge_repeat)

-- ---- what tables tell

module _ (s starts₀ lens₀ depths kids : List ℕ) (at : ℕ) (p : Spacious s starts₀ lens₀ depths kids) where
  pub tell_noting : Noting s starts₀ lens₀
  tell_noting = p.noting

  module _ (starts lens : List ℕ) (r : Option (ℕ × Result ℕ ℕ)) (v : Leaves s starts₀ lens₀ starts lens at r) where
    pub tell_short : r ≡ None → Beyond s (length starts₀)
    tell_short e =
        let b : Beyond s (length starts) = subst (Walked s starts lens at) e v.walked in
        record { many = omega (arith, b.many, v.starts_kept) }

    module _ (n : ℕ) (w : Result ℕ ℕ) (e : ◌≡◌ {A = Option (ℕ × Result ℕ ℕ)} r (Some (n, w))) where
      listed : Listed s starts lens at n w
      listed = subst (Walked s starts lens at) e v.walked

      pub tell_judging : Judging s starts lens depths kids n w
      tell_judging =
          let m = p.room in
          record {
            from = at;
            listed = listed;
            spacious = record {
              noting = record { one_size = v.lens_kept ∙ p.noting.one_size ∙ sym v.starts_kept; short = p.noting.short };
              room = record {
                few = omega (arith, m.few, v.starts_kept);
                depths_room = omega (arith, m.depths_room, v.starts_kept);
                slots_room = omega (arith, m.slots_room, v.starts_kept);
              };
              clear = p.clear;
            };
          }

      pub tell_told : (x : Result ℕ ℕ) → Judged s starts lens n w x → x ≡ each_at [] s at
      tell_told x j = j.is at listed

pub ruleset tell_laws = (tell_noting, tell_short, tell_judging, tell_told)
