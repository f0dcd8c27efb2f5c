-- How far readers reach: a law for each way to make a reader.
use Rattle.std.specs.Prelude.{if◌then◌else◌}
use Prim.Native.Nat.{ℕ, suc, ◌+◌, ◌≤◌, ◌<◌}
use mathlib.Core.Path.{◌≡◌, refl, sym, ap, ap₂, ◌∙◌}
use mathlib.Core.Bool.{Bool, true, false}
use mathlib.Core.List.{List, [], ◌∷◌, ◌++◌, append_assoc}
use native.Mathlib.Omega.{arith}
use lib.ListN.{length, take, drop, length-drop, get_or-append}
use native.Mathlib.Numerals.{add-one}
use lib.Seq.{take-nil, drop-drop, drop-append-le, take_at, take-add}
use lib.Dec.{eqb}
use Rattle.base.specs.Choose.{is_at}
use Rattle.base.proofs.Tests.{by_test}
use Rattle.base.proofs.Parts.{at_below, at_cons}
use Rattle.grammar.specs.Parse.{Parsed, Reader, on_found, always, choose, behind, closed, ◌next◌, into}
use Rattle.grammar.specs.Parse.Parsed.{failed, found}
use Rattle.grammar.proofs.Readers.{Reads, Any, not_found, if_found, same_front, through, text_over, text_length, found_within}
use Rattle.base.specs.Runs.{All}
use Rattle.viable.specs.Viable.{is_byte}
use Rattle.viable.proofs.Alls.{all_append}
use Rattle.viable.specs.Far.{Far, reached, choose_far, none_far, behind_far, closed_far, follow, next_far}

-- ---- the invariant

module _ {A : Type 0} (text : A → List ℕ → List ℕ) (Ok : A → Type 0) where
  -- the first k bytes of s begin the text of a value
  pub record Open (s : List ℕ) (k : ℕ) : Type 0 where
    pub value : A
    pub ok : Ok value
    pub rest : List ℕ
    pub split : text value [] ≡ take k s ++ rest
    pub small : All is_byte rest

  pub record Reaches (p : Reader A) (far : Far) : Type 0 where
    -- what is found does not turn on what stands behind the byte behind it
    pub local : (x y z : List ℕ) (a : A) (n : ℕ) → p (x ++ y) ≡ found a n → n < length x → p (x ++ z) ≡ found a n
    -- where the reader fails, it fails whatever stands behind the first byte that was not reached
    pub dead : (x y z : List ℕ) → p (x ++ y) ≡ failed → far (x ++ y) < length x → p (x ++ z) ≡ failed
    -- and what was reached could be gone on with
    pub extends : (s : List ℕ) → p s ≡ failed → Open s (far s)
    pub inside : (s : List ℕ) → p s ≡ failed → far s ≤ length s

-- a case at what a reader answers
pub by_parsed : {A : Type 0} (P : Parsed A → Type 0) (o : Parsed A) → (o ≡ failed → P failed) → ((a : A) (n : ℕ) → o ≡ found a n → P (found a n)) → P o
by_parsed P failed f g = f refl
by_parsed P (found a n) f g = g a n refl

-- a reader failed, where what was made of it failed and what is made of a value does not
pub unfound : {A B : Type 0} (o : Parsed A) (f : A → ℕ → Parsed B) → ((a : A) (n : ℕ) → f a n ≡ failed → ⊥) → on_found o f ≡ failed → o ≡ failed
unfound failed f h e = refl
unfound (found a m) f h e = absurd (h a m e)

-- some value is Ok, and its text is of bytes
pub record Sample {A : Type 0} (text : A → List ℕ → List ℕ) (Ok : A → Type 0) : Type 0 where
  pub value : A
  pub ok : Ok value
  pub small : All is_byte (text value [])

pub if_failed : {A : Type 0} (a : A) (n : ℕ) (t : Bool) → (if t then found a n else failed) ≡ failed → t ≡ false
if_failed a n true h = not_found (sym h)
if_failed a n false h = refl

-- the byte at a place before the seam
pub at_left : (x y z : List ℕ) (i b : ℕ) → i < length x → is_at (x ++ y) i b ≡ is_at (x ++ z) i b
at_left x y z i b h = ap (λ (k : ℕ). eqb k b) (get_or-append x y 0 i h ∙ sym (get_or-append x z 0 i h))

pub take_one : (b : ℕ) (s : List ℕ) (k : ℕ) → take (k + 1) (b ∷ s) ≡ b ∷ take k s
take_one b s k = ap (λ (n : ℕ). take n (b ∷ s)) (add-one k)

module _ {A : Type 0} {text : A → List ℕ → List ℕ} {Ok : A → Type 0} {After : List ℕ → Type 0} {p : Reader A} (P : Reads text Ok After p) where
  -- what was found is the text's front
  pub found_text : (s : List ℕ) (a : A) (n : ℕ) → p s ≡ found a n → text a [] ≡ take n s
  found_text s a n e =
      let f = P.sound s a n e in
      sym (ap (take n) (f.split ∙ P.plain a (drop n s) f.ok) ∙ take_at (text a []) (drop n s) n (sym f.size))

  -- some value is Ok
  pub some_ok : {far : Far} → Reaches text Ok p far → Sample text Ok
  some_ok {far} R =
      by_parsed (λ _. Sample text Ok) (p [])
      (λ e. let o = R.extends [] e in record { value = o.value; ok = o.ok; small = rw (o.split, take-nil (far [])) o.small })
      (λ a n e. record { value = a; ok = (P.sound [] a n e).ok; small = rw (found_text [] a n e, take-nil n) tt })

-- ---- the laws

module _ {A : Type 0} {text : A → List ℕ → List ℕ} {Ok : A → Type 0} {p : Reader A} {far : Far} (R : Reaches text Ok p far) where
  pub restate_reaches : {Ok' : A → Type 0} → ((a : A) → Ok a → Ok' a) → Reaches text Ok' p far
  restate_reaches from =
      record {
        local = R.local;
        dead = R.dead;
        extends = λ s e. let o = R.extends s e in record { value = o.value; ok = from o.value o.ok; rest = o.rest; split = o.split; small = o.small };
        inside = R.inside;
      }

  pub retext_reaches : {text' : A → List ℕ → List ℕ} → ((a : A) → Ok a → text' a [] ≡ text a []) → Reaches text' Ok p far
  retext_reaches same =
      record {
        local = R.local;
        dead = R.dead;
        extends = λ s e. let o = R.extends s e in record { value = o.value; ok = o.ok; rest = o.rest; split = same o.value o.ok ∙ o.split; small = o.small };
        inside = R.inside;
      }

-- what cannot be behind
pub dropped : (n : ℕ) (x : List ℕ) {m : ℕ} → n + m < length x → m < length (drop n x)
dropped n x h = rw (length-drop n x) (omega arith)

-- what `follow` makes of what p found
abbrev onward : {A B : Type 0} → (A → Reader B) → List ℕ → A → ℕ → Parsed (A × B)
onward q s a n = on_found (q a (drop n s)) λ b m. found (a, b) (n + m)

module _ {A B : Type 0} {ta : A → List ℕ → List ℕ} {tb : B → List ℕ → List ℕ} {OkA : A → Type 0} {OkB : A → B → Type 0} {AfterA AfterB : List ℕ → Type 0}
    {p : Reader A} {q : A → Reader B} {f : Far} {g : A → Far}
    (P : Reads ta OkA AfterA p) (Q : (a : A) → OkA a → Reads tb (OkB a) AfterB (q a)) (F : Reaches ta OkA p f) (G : (a : A) → OkA a → Reaches tb (OkB a) (q a) (g a)) where
  pub follow_reaches : Reaches (λ (c : A × B) r. ta c.0 (tb c.1 r)) (λ (c : A × B). OkA c.0 × OkB c.0 c.1) (follow p q) (next_far p f g)
  unfolding follow next_far
  follow_reaches =
      record {
        local = λ x y z c n e l.
            let t = through (p (x ++ y)) _ e in
            let u = through (q t.value (drop t.bytes (x ++ y))) _ t.second in
            let w = u.second in
            let k : t.bytes + u.bytes ≡ n = cc in
            let ok = (P.sound (x ++ y) t.value t.bytes t.first).ok in
            let a = F.local x y z t.value t.bytes t.first (omega arith) in
            let b = (G t.value ok).local (drop t.bytes x) y z u.value u.bytes
            (sym (ap (q t.value) (drop-append-le t.bytes x y (omega arith))) ∙ u.first) (dropped t.bytes x (omega arith)) in
            rw (a, drop-append-le t.bytes x z (omega arith), b) u.second;
        dead = λ x y z.
            by_parsed (λ o. on_found o (onward q (x ++ y)) ≡ failed
            → reached o (f (x ++ y)) (λ a n. n + g a (drop n (x ++ y))) < length x
            → on_found (p (x ++ z)) (onward q (x ++ z)) ≡ failed) (p (x ++ y))
            (λ e _ l. rw (F.dead x y z e l))
            (λ a n e h l.
            let w : n < length x = omega arith in
            let ok = (P.sound (x ++ y) a n e).ok in
            let d = drop-append-le n x y (omega arith) in
            let j : g a (drop n (x ++ y)) < length (drop n x) = dropped n x l in
            let b = (G a ok).dead (drop n x) y z (sym (ap (q a) d) ∙ unfound (q a (drop n (x ++ y))) _ (λ b m k. not_found (sym k)) h) (rw d at j) in
            rw (F.local x y z a n e w, drop-append-le n x z (omega arith), b));
        extends = λ s.
            by_parsed (λ o. on_found o (onward q s) ≡ failed
            → Open (λ (c : A × B) r. ta c.0 (tb c.1 r)) (λ (c : A × B). OkA c.0 × OkB c.0 c.1) s (reached o (f s) (λ a n. n + g a (drop n s)))) (p s)
            (λ e _.
            let o = F.extends s e in
            let b = some_ok (Q o.value o.ok) (G o.value o.ok) in
            record {
              value = (o.value, b.value);
              ok = (o.ok, b.ok);
              rest = o.rest ++ tb b.value [];
              small = all_append is_byte o.rest (tb b.value []) o.small b.small;
              split = P.plain o.value (tb b.value []) o.ok ∙ ap (λ (l : List ℕ). l ++ tb b.value []) o.split ∙ append_assoc (take (f s) s) o.rest (tb b.value []);
            })
            (λ a n e h.
            let ok = (P.sound s a n e).ok in
            let o = (G a ok).extends (drop n s) (unfound (q a (drop n s)) _ (λ b m k. not_found (sym k)) h) in
            let k = g a (drop n s) in
            record {
              value = (a, o.value);
              ok = (ok, o.ok);
              rest = o.rest;
              small = o.small;
              split =
                  P.plain a (tb o.value []) ok ∙ ap₂ (λ (l m : List ℕ). l ++ m) (found_text P s a n e) o.split
                  ∙ sym (append_assoc (take n s) (take k (drop n s)) o.rest) ∙ ap (λ (l : List ℕ). l ++ o.rest) (sym (take-add n k s));
            });
        inside = λ s.
            by_parsed (λ o. on_found o (onward q s) ≡ failed
            → reached o (f s) (λ a n. n + g a (drop n s)) ≤ length s) (p s)
            (λ e _. F.inside s e)
            (λ a n e h.
            let ok = (P.sound s a n e).ok in
            let l = (G a ok).inside (drop n s) (unfound (q a (drop n s)) _ (λ b m k. not_found (sym k)) h) in
            let m = found_within P s a n e in
            let d = length-drop n s in
            omega arith);
      }

module _ {A B : Type 0} {ta : A → List ℕ → List ℕ} {tb : B → List ℕ → List ℕ} {OkA : A → Type 0} {OkB : B → Type 0} {AfterA AfterB : List ℕ → Type 0}
    {p : Reader A} {q : Reader B} {f g : Far} (P : Reads ta OkA AfterA p) (Q : Reads tb OkB AfterB q) (F : Reaches ta OkA p f) (G : Reaches tb OkB q g) where
  pub next_reaches : Reaches (λ (c : A × B) r. ta c.0 (tb c.1 r)) (λ (c : A × B). OkA c.0 × OkB c.1) (p next q) (next_far p f (λ _. g))
  unfolding follow ◌next◌
  next_reaches = follow_reaches P (λ a h. Q) F (λ a h. G)

-- what q reads may go by what p found
module _ {A B : Type 0} {ta : A → List ℕ → List ℕ} {tb : B → List ℕ → List ℕ} {OkA : A → Type 0} {OkB : A → B → Type 0} {After : List ℕ → Type 0} {p : Reader A} {q : A → Reader B}
    (P : Reads ta OkA Any p) (Q : (a : A) → OkA a → Reads tb (OkB a) After (q a)) where
  pub follow_reads : Reads (λ (c : A × B) r. ta c.0 (tb c.1 r)) (λ (c : A × B). OkA c.0 × OkB c.0 c.1) After (follow p q)
  unfolding follow
  follow_reads =
      record {
        plain = λ c r h.
            let R = Q c.0 h.0 in
            P.plain c.0 (tb c.1 r) h.0
            ∙ ap (λ (l : List ℕ). ta c.0 [] ++ l) (R.plain c.1 r h.1)
            ∙ sym (append_assoc (ta c.0 []) (tb c.1 []) r)
            ∙ ap (λ (l : List ℕ). l ++ r) (sym (P.plain c.0 (tb c.1 []) h.0));
        complete = λ c r h k.
            let R = Q c.0 h.0 in
            rw (
              P.complete c.0 (tb c.1 r) h.0 tt,
              text_over P c.0 (tb c.1 r) h.0,
              R.complete c.1 r h.1 k,
              text_length P c.0 (tb c.1 []) h.0,
            );
        sound = λ s c n e. let t = through (p s) _ e in
            let u = through (q t.value (drop t.bytes s)) _ t.second in
            let f = P.sound s t.value t.bytes t.first in
            let g = (Q t.value f.ok).sound (drop t.bytes s) u.value u.bytes u.first in
            same_front u.second (record {
              ok = (f.ok, g.ok);
              split = f.split ∙ ap (ta t.value) (g.split ∙ ap (tb u.value) (drop-drop u.bytes t.bytes s));
              size = ap₂ ◌+◌ f.size g.size ∙ sym (text_length P t.value (tb u.value []) f.ok);
            });
      }

module _ {A : Type 0} {text : A → List ℕ → List ℕ} {Ok : A → Type 0} {After : List ℕ → Type 0} {p : Reader A} {far : Far} (P : Reads text Ok After p) (R : Reaches text Ok p far) where
  pub closed_reaches : (b : ℕ) → is_byte (suc b) ≡ true → Reaches (λ a r. text a (suc b ∷ r)) Ok (closed p (suc b)) (closed_far p far)
  unfolding closed closed_far
  closed_reaches b byte =
      record {
        local = λ x y z a n e l.
            let t = through (p (x ++ y)) _ e in
            let u = if_found (is_at (x ++ y) t.bytes (suc b)) t.second in
            let w = u.1 in
            let k : t.bytes + 1 ≡ n = cc in
            rw (R.local x y z t.value t.bytes t.first (omega arith), ← at_left x y z t.bytes (suc b) (omega arith), u.0) u.1;
        dead = λ x y z.
            by_parsed (λ o. on_found o (λ a n. if is_at (x ++ y) n (suc b) then found a (n + 1) else failed) ≡ failed → reached o (far (x ++ y)) (λ a n. n) < length x
            → on_found (p (x ++ z)) (λ a n. if is_at (x ++ z) n (suc b) then found a (n + 1) else failed) ≡ failed) (p (x ++ y))
            (λ e _ l. rw (R.dead x y z e l))
            (λ a n e h l. rw (R.local x y z a n e l, ← at_left x y z n (suc b) l, if_failed a (n + 1) (is_at (x ++ y) n (suc b)) h));
        extends = λ s.
            by_parsed (λ o. on_found o (λ a n. if is_at s n (suc b) then found a (n + 1) else failed) ≡ failed → Open (λ a r. text a (suc b ∷ r)) Ok s (reached o (far s) (λ a n. n))) (p s)
            (λ e _.
            let o = R.extends s e in
            record {
              value = o.value;
              ok = o.ok;
              rest = o.rest ++ (suc b ∷ []);
              small = all_append is_byte o.rest (suc b ∷ []) o.small (byte, tt);
              split = P.plain o.value (suc b ∷ []) o.ok ∙ ap (λ (l : List ℕ). l ++ (suc b ∷ [])) o.split ∙ append_assoc (take (far s) s) o.rest (suc b ∷ []);
            })
            (λ a n e _.
            let ok = (P.sound s a n e).ok in
            record { value = a; ok = ok; rest = suc b ∷ []; small = (byte, tt); split = P.plain a (suc b ∷ []) ok ∙ ap (λ (l : List ℕ). l ++ (suc b ∷ [])) (found_text P s a n e) });
        inside = λ s.
            by_parsed (λ o. on_found o (λ a n. if is_at s n (suc b) then found a (n + 1) else failed) ≡ failed → reached o (far s) (λ a n. n) ≤ length s) (p s)
            (λ e _. R.inside s e)
            (λ a n e _. found_within P s a n e);
      }

module _ {A B : Type 0} {text : A → List ℕ → List ℕ} {Ok : A → Type 0} {p : Reader A} {far : Far} (R : Reaches text Ok p far) where
  pub into_reaches : (f : A → B) (text' : B → List ℕ → List ℕ) {Ok' : B → Type 0} → ((a : A) (r : List ℕ) → text' (f a) r ≡ text a r) → ((a : A) → Ok a → Ok' (f a)) → Reaches text' Ok' (into f p) far
  unfolding into
  into_reaches f text' same from =
      record {
        local = λ x y z b n e l.
            let t = through (p (x ++ y)) _ e in
            let w = t.second in
            let k : t.bytes ≡ n = cc in
            rw (R.local x y z t.value t.bytes t.first (omega arith)) t.second;
        dead = λ x y z e l. rw (R.dead x y z (unfound (p (x ++ y)) _ (λ a n h. not_found (sym h)) e) l);
        extends = λ s e.
            let o = R.extends s (unfound (p s) _ (λ a n h. not_found (sym h)) e) in
            record { value = f o.value; ok = from o.value o.ok; rest = o.rest; split = same o.value [] ∙ o.split; small = o.small };
        inside = λ s e. R.inside s (unfound (p s) _ (λ a n h. not_found (sym h)) e);
      }

pub always_reaches : {A : Type 0} (text : A → List ℕ → List ℕ) (Ok : A → Type 0) (a : A) → Reaches text Ok (always a) none_far
always_reaches text Ok a = record { local = λ x y z b n e l. e; dead = λ x y z e l. not_found (sym e); extends = λ s e. not_found (sym e); inside = λ s e. not_found (sym e) }

-- the byte b and then p, or else q
module _ {A : Type 0} {text : A → List ℕ → List ℕ} {Ok OkP : A → Type 0} {p q : Reader A} {f g : Far} (b : ℕ)
    (F : Reaches (λ a r. drop 1 (text a r)) OkP p f)
    (led : (a : A) → OkP a → text a [] ≡ suc b ∷ drop 1 (text a []))
    (from : (a : A) → OkP a → Ok a)
    (Q-local : (x y z : List ℕ) (a : A) (n : ℕ) → is_at (x ++ y) 0 (suc b) ≡ false → q (x ++ y) ≡ found a n → n < length x → q (x ++ z) ≡ found a n)
    (Q-dead : (x y z : List ℕ) → is_at (x ++ y) 0 (suc b) ≡ false → q (x ++ y) ≡ failed → g (x ++ y) < length x → q (x ++ z) ≡ failed)
    (Q-extends : (s : List ℕ) → is_at s 0 (suc b) ≡ false → q s ≡ failed → Open text Ok s (g s))
    (Q-inside : (s : List ℕ) → q s ≡ failed → g s ≤ length s) where
  abbrev one_more : Parsed A → Parsed A
  one_more o = on_found o (λ a n. found a (n + 1))

  pub choice_reaches : Reaches text Ok (choose (suc b) p q) (choose_far (suc b) f g)
  unfolding choose choose_far
  choice_reaches =
      record {
        local = λ x y z a n e l.
            by_test (λ t. (if t then one_more (p (drop 1 (x ++ y))) else q (x ++ y)) ≡ found a n → is_at (x ++ y) 0 (suc b) ≡ t
            → (if is_at (x ++ z) 0 (suc b) then one_more (p (drop 1 (x ++ z))) else q (x ++ z)) ≡ found a n) (is_at (x ++ y) 0 (suc b))
            (λ _ h t.
            let u = through (p (drop 1 (x ++ y))) _ h in
            let w = u.second in
            let k : u.bytes + 1 ≡ n = cc in
            let d = sym (ap p (drop-append-le 1 x y (omega arith))) ∙ u.first in
            rw (← at_left x y z 0 (suc b) (omega arith), t, drop-append-le 1 x z (omega arith), F.local (drop 1 x) y z u.value u.bytes d (dropped 1 x (omega arith))) u.second)
            (λ _ h t. rw (← at_left x y z 0 (suc b) (omega arith), t) (Q-local x y z a n t h l))
            e refl;
        dead = λ x y z e l.
            by_test (λ t. (if t then one_more (p (drop 1 (x ++ y))) else q (x ++ y)) ≡ failed → (if t then f (drop 1 (x ++ y)) + 1 else g (x ++ y)) < length x → is_at (x ++ y) 0 (suc b) ≡ t
            → (if is_at (x ++ z) 0 (suc b) then one_more (p (drop 1 (x ++ z))) else q (x ++ z)) ≡ failed) (is_at (x ++ y) 0 (suc b))
            (λ _ h l t.
            let d = drop-append-le 1 x y (omega arith) in
            let v = sym (ap p d) ∙ unfound (p (drop 1 (x ++ y))) _ (λ a n k. not_found (sym k)) h in
            let j : f (drop 1 (x ++ y)) < length (drop 1 x) = dropped 1 x (omega arith) in
            rw (← at_left x y z 0 (suc b) (omega arith), t, drop-append-le 1 x z (omega arith), F.dead (drop 1 x) y z v (rw d at j)))
            (λ _ h l t. rw (← at_left x y z 0 (suc b) (omega arith), t) (Q-dead x y z t h l))
            e l refl;
        extends = λ s e.
            by_test (λ t. (if t then one_more (p (drop 1 s)) else q s) ≡ failed → is_at s 0 (suc b) ≡ t → Open text Ok s (if t then f (drop 1 s) + 1 else g s)) (is_at s 0 (suc b))
            (λ _ h t.
            let o = F.extends (drop 1 s) (unfound (p (drop 1 s)) _ (λ a n k. not_found (sym k)) h) in
            record {
              value = o.value;
              ok = from o.value o.ok;
              rest = o.rest;
              small = o.small;
              split =
                  led o.value o.ok ∙ ap (λ (l : List ℕ). suc b ∷ l) o.split
                  ∙ ap (λ (l : List ℕ). l ++ o.rest) (sym (ap (take (f (drop 1 s) + 1)) (at_cons s 0 b t) ∙ take_one (suc b) (drop 1 s) (f (drop 1 s))));
            })
            (λ _ h t. Q-extends s t h)
            e refl;
        inside = λ s e.
            by_test (λ t. (if t then one_more (p (drop 1 s)) else q s) ≡ failed → is_at s 0 (suc b) ≡ t → (if t then f (drop 1 s) + 1 else g s) ≤ length s) (is_at s 0 (suc b))
            (λ _ h t.
            let i = F.inside (drop 1 s) (unfound (p (drop 1 s)) _ (λ a n k. not_found (sym k)) h) in
            let d = length-drop 1 s in
            let w = at_below s 0 b t in
            omega arith)
            (λ _ h t. Q-inside s h)
            e refl;
      }

module _ {A : Type 0} {text : A → List ℕ → List ℕ} {Ok OkP OkQ : A → Type 0} {p q : Reader A} {f g : Far} (b : ℕ)
    (F : Reaches (λ a r. drop 1 (text a r)) OkP p f) (G : Reaches text OkQ q g) where
  pub choose_reaches : ((a : A) → OkP a → text a [] ≡ suc b ∷ drop 1 (text a [])) → ((a : A) → OkP a → Ok a) → ((a : A) → OkQ a → Ok a) → Reaches text Ok (choose (suc b) p q) (choose_far (suc b) f g)
  choose_reaches led from from' =
      let H = restate_reaches G from' in
      choice_reaches b F led from (λ x y z a n _. H.local x y z a n) (λ x y z _. H.dead x y z) (λ s _. H.extends s) H.inside

module _ {A : Type 0} {text : A → List ℕ → List ℕ} {Ok : A → Type 0} {After : List ℕ → Type 0} {p : Reader A} {far : Far} (b : ℕ) (byte : is_byte (suc b) ≡ true) (P : Reads text Ok After p) (F : Reaches text Ok p far) where
  pub behind_reaches : Reaches (λ a r. suc b ∷ text a r) Ok (behind (suc b) p) (behind_far (suc b) far)
  behind_reaches =
      choice_reaches b F (λ a h. refl) (λ a h. h) (λ x y z a n t e l. e) (λ x y z t e l. refl)
      (λ s t e. let v = some_ok P F in record { value = v.value; ok = v.ok; rest = suc b ∷ text v.value []; split = refl; small = (byte, v.small) })
      (λ s e. omega arith)

-- ---- two readers of one thing

module _ {A : Type 0} {text : A → List ℕ → List ℕ} {Ok : A → Type 0} {p q : Reader A} (P : Reads text Ok Any p) (Q : Reads text Ok Any q) where
  carry : (s : List ℕ) (a : A) (n : ℕ) → p s ≡ found a n → q s ≡ found a n
  carry s a n e =
      let f = P.sound s a n e in
      ap q f.split ∙ Q.complete a (drop n s) f.ok tt ∙ ap (found a) (sym f.size)

module _ {A : Type 0} {text : A → List ℕ → List ℕ} {Ok : A → Type 0} {p q : Reader A} (P : Reads text Ok Any p) (Q : Reads text Ok Any q) where
  pub agree : (s : List ℕ) → p s ≡ q s
  agree s =
      by_parsed (λ o. p s ≡ o → o ≡ q s) (p s)
      (λ _ e. by_parsed (λ o. q s ≡ o → failed ≡ o) (q s) (λ _ _. refl) (λ a n _ g. not_found (sym e ∙ carry Q P s a n g)) refl)
      (λ a n _ e. sym (carry P Q s a n e)) refl

pub same_reaches : {A : Type 0} {text : A → List ℕ → List ℕ} {Ok : A → Type 0} {p q : Reader A} {far : Far} → ((s : List ℕ) → p s ≡ q s) → Reaches text Ok q far → Reaches text Ok p far
same_reaches same R =
    record {
      local = λ x y z a n e l. same (x ++ z) ∙ R.local x y z a n (sym (same (x ++ y)) ∙ e) l;
      dead = λ x y z e l. same (x ++ z) ∙ R.dead x y z (sym (same (x ++ y)) ∙ e) l;
      extends = λ s e. R.extends s (sym (same s) ∙ e);
      inside = λ s e. R.inside s (sym (same s) ∙ e);
    }
