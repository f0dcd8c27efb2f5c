-- Items that go by a state: what is read, and how far.
use Rattle.std.specs.Prelude.{if◌then◌else◌}
use Prim.Native.Nat.{ℕ, zero, suc, ◌+◌, ◌≤◌, ◌<◌}
use mathlib.Core.Path.{◌≡◌, refl, sym, ap, ap₂, ◌∙◌}
use mathlib.Core.Bool.{Bool, true, false, ◌&&◌}
use mathlib.Core.List.{List, [], ◌∷◌, ◌++◌, append_assoc}
use native.Mathlib.Omega.{arith}
use lib.ListN.{length, take, drop}
use lib.Seq.{drop-drop, take-add}
use lib.Dec.{eqb}
use borrow.Author.Tests.{eq-eqb, eqb-true}
use Rattle.base.specs.Choose.{is_at}
use Rattle.base.proofs.Tests.{by_test}
use Rattle.grammar.specs.Line.{each_then}
use Rattle.grammar.specs.Parse.{Parsed, Reader, on_found, item_and}
use Rattle.grammar.specs.Parse.Parsed.{failed, found}
use Rattle.grammar.proofs.Readers.{Front, Reads, Any, not_found, same_front, through, text_over, text_length}
use Rattle.viable.specs.Far.{Far, reached, each_from, each_far}
use Rattle.viable.proofs.Reaches.{Open, Reaches, by_parsed, found_text, take_one}

-- each item is Ok in the state that those before have left
abbrev pub EachFrom : {A S : Type 0} → (S → A → Type 0) → (S → A → S) → S → List A → Type 0
EachFrom Ok step u [] = Unit {0}
EachFrom Ok step u (a ∷ l) = Ok u a × EachFrom Ok step (step u a) l

-- the items behind a first
pub record Tail {A : Type 0} (a : A) (n : ℕ) (o : Parsed (List A)) (l : List A) (m : ℕ) : Type 0 where
  pub items : List A
  pub bytes : ℕ
  pub first : o ≡ found items bytes
  pub second : found (a ∷ items) (n + 1 + bytes) ≡ found l m

pub tail : {A : Type 0} (a : A) (n : ℕ) (o : Parsed (List A)) (l : List A) (m : ℕ) → item_and a n o ≡ found l m → Tail a n o l m
tail a n failed l m e = not_found e
tail a n (found l' k) l m e = record { items = l'; bytes = k; first = refl; second = e }

pub no_tail : {A : Type 0} (a : A) (n : ℕ) (o : Parsed (List A)) → item_and a n o ≡ failed → o ≡ failed
no_tail a n failed e = refl
no_tail a n (found l k) e = not_found (sym e)

module _ {A S : Type 0} {text : A → List ℕ → List ℕ} {Ok : S → A → Type 0} (b : ℕ) (p : S → Reader A) (step : S → A → S) (P : (u : S) → Reads text (Ok u) Any (p u)) where
  abbrev item : A → List ℕ → List ℕ
  item a r = suc b ∷ text a r

  abbrev go : S → ℕ → Reader (List A)
  go u k s = each_from (suc b) p step u k s

  abbrev Fits : S → List A → Type 0
  Fits u l = EachFrom Ok step u l

  each_skip : (u : S) (k : ℕ) (s : List ℕ) → go u k s ≡ go u 0 (drop k s)
  unfolding each_from
  each_skip u zero [] = refl
  each_skip u (suc k) [] = refl
  each_skip u zero (x ∷ s) = refl
  each_skip u (suc k) (x ∷ s) = each_skip u k s

  each_end : (u : S) (s : List ℕ) → is_at s 0 (suc b) ≡ false → go u 0 s ≡ found [] 0
  unfolding each_from
  each_end u [] h = refl
  each_end u (x ∷ s) h = rw h

  each_item : (u : S) (s : List ℕ) (a : A) (n : ℕ) → p u s ≡ found a n → go u 0 (suc b ∷ s) ≡ item_and a n (go (step u a) 0 (drop n s))
  unfolding each_from
  each_item u s a n e = rw (eq-eqb (suc b) (suc b) refl, e) (ap (item_and a n) (each_skip (step u a) n s))

  each_plain : (u : S) (l : List A) (r : List ℕ) → Fits u l → each_then item l r ≡ each_then item l [] ++ r
  each_plain u [] r h = refl
  each_plain u (a ∷ l) r h =
      ap (item a) (each_plain (step u a) l r h.1)
      ∙ ap (λ (t : List ℕ). suc b ∷ t) ((P u).plain a (each_then item l [] ++ r) h.0 ∙ sym (append_assoc (text a []) (each_then item l []) r)
      ∙ ap (λ (t : List ℕ). t ++ r) (sym ((P u).plain a (each_then item l []) h.0)))

  each_complete : (u : S) (l : List A) (r : List ℕ) → Fits u l → is_at r 0 (suc b) ≡ false → go u 0 (each_then item l r) ≡ found l (length (each_then item l []))
  each_complete u [] r h k = each_end u r k
  each_complete u (a ∷ l) r h k =
      let t = each_then item l r in
      let n = length (text a []) in
      let z : n + 1 + length (each_then item l []) ≡ suc (length (text a (each_then item l []))) = let y = text_length (P u) a (each_then item l []) h.0 in omega arith in
      each_item u (text a t) a n ((P u).complete a t h.0 tt)
      ∙ rw (text_over (P u) a t h.0, each_complete (step u a) l r h.1 k, z)

  each_sound : (u : S) (k : ℕ) (s : List ℕ) (l : List A) (n : ℕ) → go u k s ≡ found l n → Front (each_then item) (Fits u) (drop k s) l n
  unfolding each_from
  each_sound u zero [] l n e = same_front e (record { ok = tt; split = refl; size = refl })
  each_sound u (suc k) [] l n e = same_front e (record { ok = tt; split = refl; size = refl })
  each_sound u (suc k) (x ∷ s) l n e = each_sound u k s l n e
  each_sound u zero (x ∷ s) l n e =
      by_test (λ (t : Bool). (if t then on_found (p u s) (λ a n. item_and a n (go (step u a) n s)) else found [] 0) ≡ found l n → Front (each_then item) (Fits u) (x ∷ s) l n) (eqb x (suc b))
      (λ t g.
      let v = through (p u s) _ g in
      let a = v.value in
      let m = v.bytes in
      let w = tail a m (go (step u a) m s) l n v.second in
      let g = (P u).sound s a m v.first in
      let i = each_sound (step u a) m s w.items w.bytes w.first in
      let far : drop w.bytes (drop m s) ≡ drop (m + 1 + w.bytes) (x ∷ s)
      = drop-drop w.bytes m s ∙ ap (λ (k : ℕ). drop k (x ∷ s)) (let z : suc (m + w.bytes) ≡ m + 1 + w.bytes = omega arith in z) in
      same_front w.second (record {
        ok = (g.ok, i.ok);
        split = ap (λ (x : ℕ). x ∷ s) (eqb-true x (suc b) t) ∙ ap (λ (s : List ℕ). suc b ∷ s) (g.split ∙ ap (text a) (i.split ∙ ap (each_then item w.items) far));
        size = let z = g.size in let y = i.size in let q = text_length (P u) a (each_then item w.items []) g.ok in omega arith;
      }))
      (λ t g. same_front g (record { ok = tt; split = refl; size = refl }))
      e

  pub each_reads : (u : S) → Reads (each_then item) (Fits u) (λ r. is_at r 0 (suc b) ≡ false) (each_from (suc b) p step u 0)
  each_reads u = record { plain = each_plain u; complete = each_complete u; sound = each_sound u 0 }

  module _ (f : S → Far) (room : S → Bool) (F : (u : S) → room u ≡ true → Reaches text (Ok u) (p u) (f u)) (full : (u : S) → room u ≡ false → (s : List ℕ) → p u s ≡ failed) where
    abbrev far : S → ℕ → Far
    far u k s = each_far (suc b) p f step room u k s

    -- where an item is found, there is room
    found_room : (u : S) (s : List ℕ) (a : A) (n : ℕ) → p u s ≡ found a n → room u ≡ true
    found_room u s a n e = by_test (λ t. room u ≡ t → room u ≡ true) (room u) (λ _ t. t) (λ _ t. not_found (sym (full u t s) ∙ e)) refl

    each_local : (u : S) (k : ℕ) (x y z : List ℕ) (l : List A) (n : ℕ) → go u k (x ++ y) ≡ found l n → k + n < length x → go u k (x ++ z) ≡ found l n
    unfolding each_from
    each_local u k [] y z l n e h = absurd (omega arith)
    each_local u (suc k) (c ∷ x) y z l n e h = each_local u k x y z l n e (omega arith)
    each_local u zero (c ∷ x) y z l n e h =
        by_test (λ (t : Bool). (if t then on_found (p u (x ++ y)) (λ a n. item_and a n (go (step u a) n (x ++ y))) else found [] 0) ≡ found l n
        → (if t then on_found (p u (x ++ z)) (λ a n. item_and a n (go (step u a) n (x ++ z))) else found [] 0) ≡ found l n) (eqb c (suc b))
        (λ t g.
        let v = through (p u (x ++ y)) _ g in
        let a = v.value in
        let m = v.bytes in
        let w = tail a m (go (step u a) m (x ++ y)) l n v.second in
        let q = w.second in
        let j : m + 1 + w.bytes ≡ n = cc in
        rw (
          (F u (found_room u (x ++ y) a m v.first)).local x y z a m v.first (omega arith),
          each_local (step u a) m x y z w.items w.bytes w.first (omega arith),
        ) w.second)
        (λ t g. g)
        e

    each_dead : (u : S) (k : ℕ) (x y z : List ℕ) → go u k (x ++ y) ≡ failed → k + far u k (x ++ y) < length x → go u k (x ++ z) ≡ failed
    unfolding each_from each_far
    each_dead u k [] y z e h = absurd (omega arith)
    each_dead u (suc k) (c ∷ x) y z e h = each_dead u k x y z e (omega arith)
    each_dead u zero (c ∷ x) y z e h =
        by_test (λ (t : Bool). (if t then on_found (p u (x ++ y)) (λ a n. item_and a n (go (step u a) n (x ++ y))) else found [] 0) ≡ failed
        → (if t && room u then reached (p u (x ++ y)) (f u (x ++ y) + 1) (λ a n. n + 1 + far (step u a) n (x ++ y)) else 0) < suc (length x)
        → (if t then on_found (p u (x ++ z)) (λ a n. item_and a n (go (step u a) n (x ++ z))) else found [] 0) ≡ failed) (eqb c (suc b))
        (λ _.
        by_test (λ (t : Bool). room u ≡ t → on_found (p u (x ++ y)) (λ a n. item_and a n (go (step u a) n (x ++ y))) ≡ failed
        → (if t then reached (p u (x ++ y)) (f u (x ++ y) + 1) (λ a n. n + 1 + far (step u a) n (x ++ y)) else 0) < suc (length x)
        → on_found (p u (x ++ z)) (λ a n. item_and a n (go (step u a) n (x ++ z))) ≡ failed) (room u)
        (λ _ t.
        by_parsed (λ o. on_found o (λ a n. item_and a n (go (step u a) n (x ++ y))) ≡ failed
        → reached o (f u (x ++ y) + 1) (λ a n. n + 1 + far (step u a) n (x ++ y)) < suc (length x)
        → on_found (p u (x ++ z)) (λ a n. item_and a n (go (step u a) n (x ++ z))) ≡ failed) (p u (x ++ y))
        (λ e _ l. rw ((F u t).dead x y z e (omega arith)))
        (λ a n e g l. rw ((F u t).local x y z a n e (omega arith), each_dead (step u a) n x y z (no_tail a n _ g) (omega arith))))
        (λ _ t g l. rw (full u t (x ++ z)))
        refl)
        (λ _ g l. g)
        e (omega arith)

    each_extends : (u : S) (k : ℕ) (s : List ℕ) → go u k s ≡ failed → Open (each_then item) (Fits u) (drop k s) (far u k s)
    unfolding each_from each_far
    each_extends u zero [] e = not_found (sym e)
    each_extends u (suc k) [] e = not_found (sym e)
    each_extends u (suc k) (x ∷ s) e = each_extends u k s e
    each_extends u zero (x ∷ s) e =
        by_test (λ (t : Bool). (if t then on_found (p u s) (λ a n. item_and a n (go (step u a) n s)) else found [] 0) ≡ failed → eqb x (suc b) ≡ t
        → Open (each_then item) (Fits u) (x ∷ s) (if t && room u then reached (p u s) (f u s + 1) (λ a n. n + 1 + far (step u a) n s) else 0)) (eqb x (suc b))
        (λ _ g c.
        by_test (λ (t : Bool). room u ≡ t
        → Open (each_then item) (Fits u) (x ∷ s) (if t then reached (p u s) (f u s + 1) (λ a n. n + 1 + far (step u a) n s) else 0)) (room u)
        (λ _ t.
        by_parsed (λ o. p u s ≡ o → on_found o (λ a n. item_and a n (go (step u a) n s)) ≡ failed
        → Open (each_then item) (Fits u) (x ∷ s) (reached o (f u s + 1) (λ a n. n + 1 + far (step u a) n s))) (p u s)
        (λ _ e g.
        let o = (F u t).extends s e in
        record {
          value = o.value ∷ [];
          ok = (o.ok, tt);
          rest = o.rest;
          small = o.small;
          split = ap (λ (t : List ℕ). suc b ∷ t) o.split ∙ ap (λ (t : List ℕ). t ++ o.rest) (sym (ap (λ (x : ℕ). take (f u s + 1) (x ∷ s)) (eqb-true x (suc b) c) ∙ take_one (suc b) s (f u s)));
        })
        (λ a n _ e g.
        let i = ((P u).sound s a n e).ok in
        let o = each_extends (step u a) n s (no_tail a n _ g) in
        let k = far (step u a) n s in
        let z : n + 1 + k ≡ n + k + 1 = omega arith in
        record {
          value = a ∷ o.value;
          ok = (i, o.ok);
          rest = o.rest;
          small = o.small;
          split =
              ap (λ (t : List ℕ). suc b ∷ t) ((P u).plain a (each_then item o.value []) i ∙ ap₂ (λ (l m : List ℕ). l ++ m) (found_text (P u) s a n e) o.split
              ∙ sym (append_assoc (take n s) (take k (drop n s)) o.rest) ∙ ap (λ (l : List ℕ). l ++ o.rest) (sym (take-add n k s)))
              ∙ ap (λ (t : List ℕ). t ++ o.rest)
              (sym (ap (λ (j : ℕ). take j (x ∷ s)) z ∙ ap (λ (x : ℕ). take (n + k + 1) (x ∷ s)) (eqb-true x (suc b) c) ∙ take_one (suc b) s (n + k)));
        })
        refl g)
        (λ _ t. record { value = []; ok = tt; rest = []; split = refl; small = tt })
        refl)
        (λ _ g c. not_found (sym g))
        e refl

    each_inside : (u : S) (k : ℕ) (s : List ℕ) → go u k s ≡ failed → k + far u k s ≤ length s
    unfolding each_from each_far
    each_inside u zero [] e = not_found (sym e)
    each_inside u (suc k) [] e = not_found (sym e)
    each_inside u (suc k) (x ∷ s) e = let l = each_inside u k s e in omega arith
    each_inside u zero (x ∷ s) e =
        by_test (λ (t : Bool). (if t then on_found (p u s) (λ a n. item_and a n (go (step u a) n s)) else found [] 0) ≡ failed
        → 0 + (if t && room u then reached (p u s) (f u s + 1) (λ a n. n + 1 + far (step u a) n s) else 0) ≤ suc (length s)) (eqb x (suc b))
        (λ _ g.
        by_test (λ (t : Bool). room u ≡ t → 0 + (if t then reached (p u s) (f u s + 1) (λ a n. n + 1 + far (step u a) n s) else 0) ≤ suc (length s)) (room u)
        (λ _ t.
        by_parsed (λ o. p u s ≡ o → on_found o (λ a n. item_and a n (go (step u a) n s)) ≡ failed → 0 + reached o (f u s + 1) (λ a n. n + 1 + far (step u a) n s) ≤ suc (length s)) (p u s)
        (λ _ e g. let l = (F u t).inside s e in omega arith)
        (λ a n _ e g. let l = each_inside (step u a) n s (no_tail a n _ g) in omega arith)
        refl g)
        (λ _ t. omega arith)
        refl)
        (λ _ g. not_found (sym g))
        e

    pub each_reaches : (u : S) → Reaches (each_then item) (Fits u) (each_from (suc b) p step u 0) (each_far (suc b) p f step room u 0)
    each_reaches u =
        record {
          local = λ x y z l n e h. each_local u 0 x y z l n e (omega arith);
          dead = λ x y z e h. each_dead u 0 x y z e (omega arith);
          extends = each_extends u 0;
          inside = λ s e. let l = each_inside u 0 s e in omega arith;
        }
