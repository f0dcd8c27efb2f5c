-- Ids by blocks: elements with their ids alone, which the strict reader reads where the ids differ.
use Rattle.std.specs.Prelude.{if◌then◌else◌, Option, is_some}
use Prim.Native.Nat.{ℕ, zero, suc, ◌+◌, ◌-◌, ◌≤◌, ◌<◌}
use mathlib.Core.Path.{◌≡◌, refl, sym, ap, ◌∙◌, subst}
use mathlib.Core.Bool.{Bool, true, false, not, ◌&&◌, ◌||◌}
use mathlib.Core.List.{List, [], ◌∷◌, ◌++◌, map, append_assoc, append-nil}
use native.Mathlib.Decide.{dec_le}
use native.Mathlib.Omega.{arith}
use lib.ListN.{length, get_or, take, drop, length-append, length-take, length-drop, take-append-drop, drop_of_length-le}
use lib.Seq.{take-suc, take_at, drop-drop, get_or-drop, length-take-le}
use borrow.Author.Tests.{not-true, not-false}
use mir.Syntax.{w64}
use mir.Val as val
use Rattle.base.specs.Texts.{same_text, is_in, all_different}
use Rattle.base.proofs.Tests.{clash, both, by_test}
use Rattle.record.specs.Limits.{line_limit}
use Rattle.output.specs.Fits.{Fits}
use Rattle.output.specs.Output.{written, Wrote}
use Rattle.output.proofs.Writes.{wrote_none, wrote_then, wrote_length}
use Rattle.grammar.specs.Abnf.{sd_name_byte, Repeat}
use Rattle.grammar.specs.Line.{Element, element_then, each_then, data_then, ElementOk, Each, ids_of}
use Rattle.grammar.specs.Parse.{Parsed, failed, found, only, structured}
use Rattle.grammar.proofs.Data.{listed_reads}
use Rattle.strict_data.specs.Counts.{counts_of}
use Rattle.strict_data.specs.declared.Counts.{Counts}
use Rattle.writes.proofs.Fits.{class_sound}
use Rattle.writes.specs.Fits.{class_fits}
use Rattle.ids.specs.declared.Block.{Block}
use Rattle.ids.specs.Ids.{id_in, ids_in, ids_fit, bare_text, Gathers, Tells, Joins}

-- ---- lists of ids

ids_append : (text : List ℕ) (a b : List (List ℕ)) → ids_in text (a ++ b) ≡ ids_in text a ++ ids_in text b
unfolding ids_in
ids_append text [] b = refl
ids_append text (row ∷ a) b = ap (λ (l : List (List ℕ)). id_in text row ∷ l) (ids_append text a b)

ids_length : (text : List ℕ) (rows : List (List ℕ)) → length (ids_in text rows) ≡ length rows
unfolding ids_in
ids_length text [] = refl
ids_length text (row ∷ rows) = ap suc (ids_length text rows)

bare_append : (a b : List (List ℕ)) → bare_text (a ++ b) ≡ bare_text a ++ bare_text b
bare_append [] b = refl
bare_append (id ∷ a) b = ap (λ (l : List ℕ). ((91 ∷ id) ++ (93 ∷ [])) ++ l) (bare_append a b) ∙ sym (append_assoc ((91 ∷ id) ++ (93 ∷ [])) (bare_text a) (bare_text b))

-- the ids are SD-NAMEs
ids_named : (text : List ℕ) (rows : List (List ℕ)) → ids_fit text rows ≡ true → Each (Repeat 1 32 sd_name_byte) (ids_in text rows)
unfolding ids_fit ids_in
ids_named text [] h = tt
ids_named text (row ∷ rows) h =
    let u = both (class_fits 32 sd_name_byte (id_in text row)) (ids_fit text rows) h in
    (class_sound 32 sd_name_byte (id_in text row) u.0, ids_named text rows u.1)

each_take : {A : Type 0} (P : A → Type 0) (n : ℕ) (l : List A) → Each P l → Each P (take n l)
each_take P zero l h = tt
each_take P (suc n) [] h = tt
each_take P (suc n) (a ∷ l) h = (h.0, each_take P n l h.1)

each_drop : {A : Type 0} (P : A → Type 0) (n : ℕ) (l : List A) → Each P l → Each P (drop n l)
each_drop P zero l h = h
each_drop P (suc n) [] h = tt
each_drop P (suc n) (a ∷ l) h = each_drop P n l h.1

each_append : {A : Type 0} (P : A → Type 0) (a b : List A) → Each P a → Each P b → Each P (a ++ b)
each_append P [] b h k = k
each_append P (x ∷ a) b h k = (h.0, each_append P a b h.1 k)

-- ---- the strict reader on such a text

abbrev bare : List ℕ → Element
bare id = record { id = id; params = [] }

bare_data : (ids : List (List ℕ)) → bare_text ids ≡ each_then element_then (map bare ids) []
bare_data [] = refl
bare_data (id ∷ ids) = ap (λ (l : List ℕ). 91 ∷ l) (append_assoc id (93 ∷ []) (bare_text ids)) ∙ ap (λ (l : List ℕ). 91 ∷ (id ++ (93 ∷ l))) (bare_data ids)

bare_text_lem : (ids : List (List ℕ)) → 1 ≤ length ids → bare_text ids ≡ data_then (map bare ids) []
bare_text_lem [] h = absurd (omega arith)
bare_text_lem (id ∷ ids) h = bare_data (id ∷ ids)

bare_ok : (ids : List (List ℕ)) → Each (Repeat 1 32 sd_name_byte) ids → Each ElementOk (map bare ids)
bare_ok [] h = tt
bare_ok (id ∷ ids) h = (record { id_ok = h.0; params_ok = tt }, bare_ok ids h.1)

bare_ids : (ids : List (List ℕ)) → ids_of (map bare ids) ≡ ids
bare_ids [] = refl
bare_ids (id ∷ ids) = ap (λ (l : List (List ℕ)). id ∷ l) (bare_ids ids)

structured_is : (es : List Element) → Each ElementOk es → structured (data_then es []) ≡ (if all_different (ids_of es) then found es (length (data_then es [])) else failed)
unfolding structured only
structured_is es h = rw (listed_reads.complete es [] h refl)

counted_is : (s : List ℕ) (ids : List (List ℕ)) → s ≡ bare_text ids → 1 ≤ length ids → Each (Repeat 1 32 sd_name_byte) ids → is_some (counts_of (structured s)) ≡ all_different ids
counted_is s ids e l h =
    let es = map bare ids in
    ap (λ (t : List ℕ). is_some (counts_of (structured t))) (e ∙ bare_text_lem ids l)
    ∙ ap (λ (x : Parsed (List Element)). is_some (counts_of x)) (structured_is es (bare_ok ids h))
    ∙ by_test (λ b. is_some (counts_of (if b then found es (length (data_then es [])) else failed)) ≡ b) (all_different (ids_of es)) (λ _. refl) (λ _. refl)
    ∙ ap all_different (bare_ids ids)

module _ (line : List ℕ) (end : ℕ) (c : Option Counts) (e : c ≡ counts_of (structured (take (end - 0) (drop 0 line)))) where
  pub bare_tells : (r : Bool) → r ≡ is_some c → Tells (take end line) r
  bare_tells r q =
      let z : end - 0 ≡ end = omega arith in
      record { tells = λ ids s l h. q ∙ ap is_some e ∙ rw z (counted_is (take end line) ids s l h) }

-- ---- a block

pub record Gathering (text : List ℕ) (rows : List (List ℕ)) (from at most : ℕ) (o : List ℕ) (i end : ℕ) (p : List ℕ) : Type 0 where
  pub forward : from ≤ i
  pub inside : i ≤ length rows
  pub within : end ≤ most
  pub start : i ≤ from → end ≡ at
  pub same : length p ≡ length o
  pub wrote : Wrote o at (bare_text (ids_in text (take (i - from) (drop from rows)))) end p

module _ (text : List ℕ) (rows : List (List ℕ)) (from at most : ℕ) (o : List ℕ) where
  pub gather_start : from ≤ length rows → at ≤ most → Gathering text rows from at most o from at o
  unfolding ids_in
  gather_start f l =
      let z : from - from ≡ 0 = omega arith in
      record { forward = omega arith; inside = f; within = l; start = λ q. refl; same = refl; wrote = rw z (wrote_none o at) }

  module _ (room : most ≤ length o) (i end : ℕ) (p : List ℕ) (w : Gathering text rows from at most o i end p) where
    pub gather_end : length rows ≤ i → Gathers text rows from at most o (record { next = i; end = end }) p
    gather_end h = record { forward = w.forward; inside = w.inside; within = w.within; some = λ f l. omega (arith, w.inside); wrote = w.wrote }

    pub gather_same : length p ≡ length o
    gather_same = w.same

    module _ (h : i < length rows) (fit : ids_fit text rows ≡ true) (id : List ℕ) (e : id ≡ id_in text (get_or rows i [])) where
      short : length id ≤ 32
      unfolding ids_in
      short = rw e (each_at_lem i rows h (ids_named text rows fit))
        where
          each_at_lem : (k : ℕ) (l : List (List ℕ)) → k < length l → Each (Repeat 1 32 sd_name_byte) (ids_in text l) → length (id_in text (get_or l k [])) ≤ 32
          each_at_lem k [] q n = absurd (omega arith)
          each_at_lem zero (row ∷ l) q n = n.0.at_most
          each_at_lem (suc k) (row ∷ l) q n = each_at_lem k l (omega arith) n.1

      pub gather_sum : val.Fits w64 (length id + 2)
      gather_sum = record { fits = omega (arith, short) }

      pub gather_sub : end ≤ most
      gather_sub = w.within

      pub gather_full : most - end < length id + 2 → Gathers text rows from at most o (record { next = i; end = end }) p
      gather_full full =
          record {
            forward = w.forward;
            inside = w.inside;
            within = w.within;
            some = λ f l. go (dec_le i from) l;
            wrote = w.wrote;
          }
        where
          go : Dec (i ≤ from) → at + 34 ≤ most → from < i
          go (yes q) l = absurd (omega (arith, short, w.start q))
          go (no q) l = omega arith

      pub gather_fits : length id + 2 ≤ most - end → Fits p end ((91 ∷ id) ++ (93 ∷ []))
      gather_fits l = record { fits = omega (arith, w.within, w.same, length-append (91 ∷ id) (93 ∷ [])) }

      snoc : bare_text (ids_in text (take (i - from) (drop from rows))) ++ ((91 ∷ id) ++ (93 ∷ [])) ≡ bare_text (ids_in text (take (i + 1 - from) (drop from rows)))
      unfolding ids_in
      snoc =
          let n = i - from in
          let z : i + 1 - from ≡ suc n = omega (arith, w.forward) in
          let y : from + n ≡ i = omega (arith, w.forward) in
          let l : n < length (drop from rows) = omega (arith, length-drop from rows) in
          let t : take (suc n) (drop from rows) ≡ take n (drop from rows) ++ (get_or rows i [] ∷ []) =
          take-suc (drop from rows) n [] l ∙ rw (get_or-drop from rows n [], y) in
          sym (rw z (
          ap (λ (r : List (List ℕ)). bare_text (ids_in text r)) t
          ∙ ap bare_text (ids_append text (take n (drop from rows)) (get_or rows i [] ∷ []))
          ∙ bare_append (ids_in text (take n (drop from rows))) (id_in text (get_or rows i []) ∷ [])
          ∙ rw (← e) (ap (λ (r : List ℕ). bare_text (ids_in text (take n (drop from rows))) ++ r) (append-nil ((91 ∷ id) ++ (93 ∷ []))))))

      pub gather_on : length id + 2 ≤ most - end → (n : ℕ) (q : List ℕ) → Wrote p end ((91 ∷ id) ++ (93 ∷ [])) n q → Gathering text rows from at most o (i + 1) n q
      gather_on l n q u =
          let f = gather_fits l in
          let m : length ((91 ∷ id) ++ (93 ∷ [])) ≡ length id + 2 = omega (arith, length-append (91 ∷ id) (93 ∷ [])) in
          let b : at + length (bare_text (ids_in text (take (i - from) (drop from rows)))) ≤ length o = omega (arith, w.wrote.behind, w.within, room) in
          record {
            forward = omega (arith, w.forward);
            inside = omega arith;
            within = omega (arith, u.behind, m, w.within);
            start = λ z. absurd (omega (arith, w.forward));
            same = wrote_length u f.fits ∙ w.same;
            wrote = rw snoc at (wrote_then w.wrote b u);
          }

pub ruleset gather_laws = (gather_start, gather_end, gather_same, gather_sum, gather_sub, gather_full, gather_fits, gather_on)

-- ---- ids that differ, in two lists

-- none of the one is in the other
abbrev apart : List (List ℕ) → List (List ℕ) → Bool
apart [] b = true
apart (x ∷ a) b = not (is_in x b) && apart a b

in_append : (t : List ℕ) (a b : List (List ℕ)) → is_in t (a ++ b) ≡ (is_in t a || is_in t b)
in_append t [] b = refl
in_append t (x ∷ a) b = ap (λ (e : Bool). same_text t x || e) (in_append t a b) ∙ sym (or_assoc (same_text t x) (is_in t a) (is_in t b))
  where
    or_assoc : (x y z : Bool) → ((x || y) || z) ≡ (x || (y || z))
    or_assoc true y z = refl
    or_assoc false y z = refl

shuffle : (x y p q r : Bool) → (not (x || y) && ((p && q) && r)) ≡ (((not x && p) && (not y && q)) && r)
shuffle true y p q r = refl
shuffle false true true q r = refl
shuffle false true false q r = refl
shuffle false false p q r = refl

differ_append : (a b : List (List ℕ)) → all_different (a ++ b) ≡ ((all_different a && apart a b) && all_different b)
differ_append [] b = refl
differ_append (x ∷ a) b = rw (in_append x a b, differ_append a b) (shuffle (is_in x a) (is_in x b) (all_different a) (apart a b) (all_different b))

swap : (x y p q : Bool) → (not (x || y) && (p && q)) ≡ ((not x && p) && (not y && q))
swap true y p q = refl
swap false true true q = refl
swap false true false q = refl
swap false false p q = refl

apart_append : (a b c : List (List ℕ)) → apart a (b ++ c) ≡ (apart a b && apart a c)
apart_append [] b c = refl
apart_append (x ∷ a) b c = rw (in_append x b c, apart_append a b c) (swap (is_in x b) (is_in x c) (apart a b) (apart a c))

apart_none : (a : List (List ℕ)) → apart a [] ≡ true
apart_none [] = refl
apart_none (x ∷ a) = apart_none a

-- ---- blocks of the rows

module _ (text : List ℕ) (rows : List (List ℕ)) where
  -- the ids from i on, and those of a block
  abbrev from : ℕ → List (List ℕ)
  from i = ids_in text (drop i rows)

  abbrev upto : ℕ → ℕ → List (List ℕ)
  upto i j = ids_in text (take (j - i) (drop i rows))

  split : (i j : ℕ) → i ≤ j → from i ≡ upto i j ++ from j
  split i j h =
      let z : i + (j - i) ≡ j = omega arith in
      ap (ids_in text) (sym (take-append-drop (j - i) (drop i rows)) ∙ ap (λ (r : List (List ℕ)). take (j - i) (drop i rows) ++ r) (drop-drop (j - i) i rows ∙ ap (λ (k : ℕ). drop k rows) z))
      ∙ ids_append text (take (j - i) (drop i rows)) (drop j rows)

  named : ids_fit text rows ≡ true → (i j : ℕ) → Each (Repeat 1 32 sd_name_byte) (upto i j)
  unfolding ids_in
  named fit i j =
      let all = ids_named text rows fit in
      subst (Each (Repeat 1 32 sd_name_byte)) (sym (ids_part i (j - i))) (each_take _ (j - i) (drop i (ids_in text rows)) (each_drop _ i (ids_in text rows) all))
    where
      ids_drop : (k : ℕ) (l : List (List ℕ)) → ids_in text (drop k l) ≡ drop k (ids_in text l)
      ids_drop zero l = refl
      ids_drop (suc k) [] = refl
      ids_drop (suc k) (row ∷ l) = ids_drop k l

      ids_take : (k : ℕ) (l : List (List ℕ)) → ids_in text (take k l) ≡ take k (ids_in text l)
      ids_take zero l = refl
      ids_take (suc k) [] = refl
      ids_take (suc k) (row ∷ l) = ap (λ (r : List (List ℕ)). id_in text row ∷ r) (ids_take k l)

      ids_part : (k n : ℕ) → ids_in text (take n (drop k rows)) ≡ take n (drop k (ids_in text rows))
      ids_part k n = ids_take n (drop k rows) ∙ ap (take n) (ids_drop k rows)

-- what stands in front after a write
module _ (o : List ℕ) (at : ℕ) (t : List ℕ) (n : ℕ) (p : List ℕ) (w : Wrote o at t n p) (h : at + length t ≤ length o) where
  front_wrote : take n p ≡ take at o ++ t
  unfolding written
  front_wrote =
      let l : length (take at o ++ t) ≡ n = length-append (take at o) t ∙ omega (arith, length-take-le at o (omega arith), w.behind) in
      ap (take n) (w.holds ∙ sym (append_assoc (take at o) t (drop (at + length t) o))) ∙ take_at (take at o ++ t) (drop (at + length t) o) n l

  front_kept : take at p ≡ take at o
  unfolding written
  front_kept = ap (take at) w.holds ∙ take_at (take at o) (t ++ drop (at + length t) o) at (length-take-le at o (omega arith))

-- the block from a to c is at the front of the line, up to `end`, and differs from all up to b
pub record Meeting (text : List ℕ) (rows : List (List ℕ)) (a c end : ℕ) (line : List ℕ) (b : ℕ) : Type 0 where
  pub forward : a < c
  pub onward : c ≤ b
  pub inside : b ≤ length rows
  pub half : end ≤ 4096
  pub room : line_limit ≤ length line
  pub front : take end line ≡ bare_text (upto text rows a c)
  pub left : all_different (from text rows a) ≡ ((all_different (upto text rows a c) && apart (upto text rows a c) (from text rows b)) && all_different (from text rows c))

module _ (text : List ℕ) (rows : List (List ℕ)) (a : ℕ) (line : List ℕ) where
  module _ (h : a < length rows) (room : line_limit ≤ length line) (f : Block) (next : List ℕ) (g : Gathers text rows a 0 4096 line f next) where
    pub meet_start : Meeting text rows a f.next f.end next f.next
    meet_start =
        let t = bare_text (upto text rows a f.next) in
        let l : 0 + length t ≤ length line = omega (arith, g.wrote.behind, g.within) in
        record {
          forward = g.some h (omega arith);
          onward = omega arith;
          inside = g.inside;
          half = g.within;
          room = omega (arith, wrote_length g.wrote l);
          front = front_wrote line 0 t f.end next g.wrote l;
          left = ap all_different (split text rows a f.next g.forward) ∙ differ_append (upto text rows a f.next) (from text rows f.next);
        }

  module _ (fit : ids_fit text rows ≡ true) (c end b : ℕ) (w : Meeting text rows a c end line b) where
    pub meet_inside : b ≤ length rows
    meet_inside = w.inside

    pub meet_half : end ≤ 8192
    meet_half = omega (arith, w.half)

    pub meet_room : 8192 ≤ length line
    meet_room = w.room

    module _ (s : Block) (next : List ℕ) (g : Gathers text rows b end 8192 line s next) where
      abbrev first : List (List ℕ)
      first = upto text rows a c

      abbrev other : List (List ℕ)
      other = upto text rows b s.next

      fits : end + length (bare_text other) ≤ length line
      fits = omega (arith, g.wrote.behind, g.within, w.room)

      pub meet_length : length next ≡ length line
      meet_length = wrote_length g.wrote fits

      pub meet_end : s.end ≤ length next
      meet_end = omega (arith, g.within, w.room, meet_length)

      pub meet_limit : s.end ≤ line_limit
      meet_limit = g.within

      text_is : take s.end next ≡ bare_text (first ++ other)
      text_is = front_wrote line end (bare_text other) s.end next g.wrote fits ∙ ap (λ (l : List ℕ). l ++ bare_text other) w.front ∙ sym (bare_append first other)

      some : 1 ≤ length (first ++ other)
      some =
          let n : length first ≡ length (take (c - a) (drop a rows)) = ids_length text (take (c - a) (drop a rows)) in
          omega (arith, length-append first other, n, length-take (c - a) (drop a rows), length-drop a rows, w.forward, w.onward, w.inside)

      module _ (r : Bool) (t : Tells (take s.end next) r) where
        r_is : r ≡ ((all_different first && apart first other) && all_different other)
        r_is =
            t.tells (first ++ other) text_is some (each_append _ first other (named text rows fit a c) (named text rows fit b s.next))
            ∙ differ_append first other

        behind_b : apart first (from text rows b) ≡ (apart first other && apart first (from text rows s.next))
        behind_b = ap (apart first) (split text rows b s.next g.forward) ∙ apart_append first other (from text rows s.next)

        module _ (q : not r ≡ false) where
          yes_both : ((all_different first && apart first other) ≡ true) × (all_different other ≡ true)
          yes_both = both (all_different first && apart first other) (all_different other) (sym r_is ∙ not-false r q)

          left_on : all_different (from text rows a) ≡ ((all_different first && apart first (from text rows s.next)) && all_different (from text rows c))
          left_on = let v = both (all_different first) (apart first other) yes_both.0 in w.left ∙ rw (behind_b, v.1)

          pub meet_on : s.next < length rows → Meeting text rows a c end next s.next
          meet_on l =
              record {
                forward = w.forward;
                onward = omega (arith, w.onward, g.forward);
                inside = g.inside;
                half = w.half;
                room = omega (arith, meet_length, w.room);
                front = front_kept line end (bare_text other) s.end next g.wrote fits ∙ w.front;
                left = left_on;
              }

          pub meet_less : s.next < length rows → length rows - s.next < length rows - b
          meet_less l = let m : b < length rows = omega (arith, g.forward) in omega (arith, g.some m (omega (arith, w.half)))

          pub meet_all : length rows ≤ s.next → Joins text rows a c
          unfolding ids_in
          meet_all l =
              let v = both (all_different first) (apart first other) yes_both.0 in
              let z : from text rows s.next ≡ [] = ap (ids_in text) (drop_of_length-le rows {i = s.next} l) in
              record {
                forward = w.forward;
                inside = omega (arith, w.onward, w.inside);
                differ = left_on ∙ rw (z, apart_none first, v.0);
              }

        pub meet_not : not r ≡ true → all_different (from text rows a) ≡ false
        meet_not q = none
          where
            later : all_different (from text rows c) ≡ true → all_different other ≡ true
            later h =
                let u = both (all_different (upto text rows c b) && apart (upto text rows c b) (from text rows b)) (all_different (from text rows b)) (sym (ap all_different (split text rows c b w.onward) ∙ differ_append (upto text rows c b) (from text rows b)) ∙ h) in
                let v = both (all_different other && apart other (from text rows s.next)) (all_different (from text rows s.next)) (sym (ap all_different (split text rows b s.next g.forward) ∙ differ_append other (from text rows s.next)) ∙ u.1) in
                (both (all_different other) (apart other (from text rows s.next)) v.0).0

            none : all_different (from text rows a) ≡ false
            none =
                by_test (λ x. all_different (from text rows a) ≡ x → all_different (from text rows a) ≡ false) (all_different (from text rows a))
                (λ _ e.
                let u = both (all_different first && apart first (from text rows b)) (all_different (from text rows c)) (sym w.left ∙ e) in
                let v = both (all_different first) (apart first (from text rows b)) u.0 in
                let x = both (apart first other) (apart first (from text rows s.next)) (sym behind_b ∙ v.1) in
                clash (sym (r_is ∙ rw (v.0, x.0, later u.1)) ∙ not-true r q))
                (λ _ e. e)
                refl

-- ---- all blocks

pub many_start : (text : List ℕ) (rows : List (List ℕ)) → all_different (ids_in text rows) ≡ all_different (ids_in text (drop 0 rows))
many_start text rows = refl

module _ (text : List ℕ) (rows : List (List ℕ)) (a : ℕ) (w : all_different (ids_in text rows) ≡ all_different (ids_in text (drop a rows))) where
  pub many_end : length rows ≤ a → true ≡ all_different (ids_in text rows)
  unfolding ids_in
  many_end h = sym (w ∙ ap (λ (r : List (List ℕ)). all_different (ids_in text r)) (drop_of_length-le rows {i = a} h))

  pub many_not : all_different (ids_in text (drop a rows)) ≡ false → false ≡ all_different (ids_in text rows)
  many_not q = sym (w ∙ q)

  pub many_on : (next : ℕ) → Joins text rows a next → all_different (ids_in text rows) ≡ all_different (ids_in text (drop next rows))
  many_on next g = w ∙ g.differ

pub ruleset many_laws = (many_end, many_not, many_on)
