-- Readers and what they read: a law for each way to make a reader.
use Rattle.std.specs.Prelude.{if◌then◌else◌}
use Prim.Native.Nat.{ℕ, zero, suc, ◌+◌, ◌≤◌}
use mathlib.Core.Path.{◌≡◌, refl, sym, ap, ap₂, ◌∙◌, subst, subst₂}
use mathlib.Core.Bool.{Bool, true, false}
use mathlib.Core.List.{List, [], ◌∷◌, ◌++◌, append_assoc}
use mathlib.Core.Option.{Option, none, some}
use mathlib.Core.Logic.{◌⊎◌, inl, inr, ⊎_elim}
use native.Mathlib.Omega.{arith}
use native.Mathlib.Nat.{add_comm}
use lib.ListN.{length, drop, length-append}
use lib.Seq.{drop-append_seam, drop-drop}
use lib.Dec.{eqb}
use borrow.Author.Tests.{eq-eqb, eqb-true}
use Rattle.base.specs.Choose.{is_at}
use Rattle.base.proofs.Tests.{clash, by_test}
use Rattle.base.proofs.Parts.{at_below, at_cons, at_seam}
use Rattle.grammar.specs.Line.{each_then, Each}
use Rattle.grammar.specs.Parse.{Parsed, Reader, on_found, always, never, choose, behind, closed, only, item_and, many_from, many, ◌next◌, into}
use Rattle.grammar.specs.Parse.Parsed.{failed, found}

-- ---- what a reader reads

module _ {A : Type 0} (text : A → List ℕ → List ℕ) (Ok : A → Type 0) where
  -- n bytes at the front of s are the text of a
  pub record Front (s : List ℕ) (a : A) (n : ℕ) : Type 0 where
    pub ok : Ok a
    pub split : s ≡ text a (drop n s)
    pub size : n ≡ length (text a [])

  -- Each text of a value that is Ok is found, where what stands after it allows; and what is found is such a text.
  pub record Reads (After : List ℕ → Type 0) (p : Reader A) : Type 0 where
    pub plain : (a : A) (r : List ℕ) → Ok a → text a r ≡ text a [] ++ r
    pub complete : (a : A) (r : List ℕ) → Ok a → After r → p (text a r) ≡ found a (length (text a []))
    pub sound : (s : List ℕ) (a : A) (n : ℕ) → p s ≡ found a n → Front s a n

-- whatever stands after
abbrev pub Any : List ℕ → Type 0
Any r = Unit {0}

module _ {A : Type 0} {text : A → List ℕ → List ℕ} {Ok : A → Type 0} {After : List ℕ → Type 0} {p : Reader A} (P : Reads text Ok After p) where
  pub text_length : (a : A) (r : List ℕ) → Ok a → length (text a r) ≡ length (text a []) + length r
  text_length a r h = ap length (P.plain a r h) ∙ length-append (text a []) r

  pub text_over : (a : A) (r : List ℕ) → Ok a → drop (length (text a [])) (text a r) ≡ r
  text_over a r h = ap (drop (length (text a []))) (P.plain a r h) ∙ drop-append_seam (text a []) r

  -- what is found lies within the text
  pub found_within : (s : List ℕ) (a : A) (n : ℕ) → p s ≡ found a n → n ≤ length s
  found_within s a n h =
      let f = P.sound s a n h in
      let q : length s ≡ n + length (drop n s) = ap length f.split ∙ text_length a (drop n s) f.ok ∙ ap (λ (k : ℕ). k + length (drop n s)) (sym f.size) in
      omega arith

-- ---- what was found, from what was found of it

module _ {A : Type 0} where
  pub not_found : {B : Type 0} {a : A} {n : ℕ} → failed ≡ found a n → B
  not_found e = let z : true ≡ false = cc in clash z

  pub if_found : {x : Parsed A} {a : A} {n : ℕ} (t : Bool) → (if t then x else failed) ≡ found a n → (t ≡ true) × (x ≡ found a n)
  if_found true h = (refl, h)
  if_found false h = not_found h

  pub same_front : {text : A → List ℕ → List ℕ} {Ok : A → Type 0} {s : List ℕ} {a b : A} {m n : ℕ} → found a m ≡ found b n → Front text Ok s a m → Front text Ok s b n
  same_front {text} {Ok} {s} {a} {b} {m} {n} e f =
      let v : a ≡ b = cc in
      let k : m ≡ n = cc in
      subst₂ (λ (a : A) (n : ℕ). Front text Ok s a n) v k f

pub record Through {A B : Type 0} (o : Parsed A) (f : A → ℕ → Parsed B) (b : B) (n : ℕ) : Type 0 where
  pub value : A
  pub bytes : ℕ
  pub first : o ≡ found value bytes
  pub second : f value bytes ≡ found b n

pub through : {A B : Type 0} {b : B} {n : ℕ} (o : Parsed A) (f : A → ℕ → Parsed B) → on_found o f ≡ found b n → Through o f b n
through failed f h = not_found h
through (found a m) f h = record { value = a; bytes = m; first = refl; second = h }

-- ---- the laws

module _ {A : Type 0} {text : A → List ℕ → List ℕ} {Ok : A → Type 0} {After : List ℕ → Type 0} {p : Reader A} (P : Reads text Ok After p) where
  -- the same, with the rule of the values in other words
  pub restate : {Ok' : A → Type 0} → ((a : A) → Ok' a → Ok a) → ((a : A) → Ok a → Ok' a) → Reads text Ok' After p
  restate to from =
      record {
        plain = λ a r h. P.plain a r (to a h);
        complete = λ a r h. P.complete a r (to a h);
        sound = λ s a n e. let f = P.sound s a n e in record { ok = from a f.ok; split = f.split; size = f.size };
      }

  -- the same, where more is asked of what stands after
  pub under : {After' : List ℕ → Type 0} → ((r : List ℕ) → After' r → After r) → Reads text Ok After' p
  under more = record { plain = P.plain; complete = λ a r h k. P.complete a r h (more r k); sound = P.sound }

  -- the same, of another text that agrees where a value is Ok
  pub retext : {text' : A → List ℕ → List ℕ} → ((a : A) (r : List ℕ) → Ok a → text' a r ≡ text a r) → Reads text' Ok After p
  retext same =
      record {
        plain = λ a r h. same a r h ∙ P.plain a r h ∙ ap (λ (l : List ℕ). l ++ r) (sym (same a [] h));
        complete = λ a r h k. rw (same a r h, P.complete a r h k, same a [] h);
        sound = λ s a n e. let f = P.sound s a n e in
            record { ok = f.ok; split = f.split ∙ sym (same a (drop n s) f.ok); size = f.size ∙ ap length (sym (same a [] f.ok)) };
      }

  pub closed_reads : (b : ℕ) → ((r : List ℕ) → After (suc b ∷ r)) → Reads (λ a r. text a (suc b ∷ r)) Ok Any (closed p (suc b))
  unfolding closed
  closed_reads b after =
      record {
        plain = λ a r h. P.plain a (suc b ∷ r) h ∙ sym (ap (λ (l : List ℕ). l ++ r) (P.plain a (suc b ∷ []) h) ∙ append_assoc (text a []) (suc b ∷ []) r);
        complete = λ a r h _. rw (P.complete a (suc b ∷ r) h (after r), P.plain a (suc b ∷ r) h, at_seam (text a []) r (suc b) (length (text a [])) refl, text_length P a (suc b ∷ []) h);
        sound = λ s a n e. let t = through (p s) _ e in
            let u = if_found (is_at s t.bytes (suc b)) t.second in
            let f = P.sound s t.value t.bytes t.first in
            same_front u.1 (record {
              ok = f.ok;
              split = f.split ∙ ap (text t.value) (at_cons s t.bytes b u.0);
              size = ap (λ (k : ℕ). k + 1) f.size ∙ sym (text_length P t.value (suc b ∷ []) f.ok);
            });
      }

  pub only_reads : (t : A → Bool) → Reads text (λ a. Ok a × (t a ≡ true)) After (only t p)
  unfolding only
  only_reads t =
      record {
        plain = λ a r h. P.plain a r h.0;
        complete = λ a r h k. rw (P.complete a r h.0 k, h.1);
        sound = λ s a n e. let u = through (p s) _ e in
            let v = if_found (t u.value) u.second in
            let f = P.sound s u.value u.bytes u.first in
            same_front v.1 (record { ok = (f.ok, v.0); split = f.split; size = f.size });
      }

-- a value of another type, made of one that is Ok
pub record Made {A B : Type 0} (f : A → B) (Ok : A → Type 0) (b : B) : Type 0 where
  pub of : A
  pub is : f of ≡ b
  pub ok : Ok of

-- how the values of an option divide
module _ {A : Type 0} (Ok : Option A → Type 0) where
  pub sides : (o : Option A) → Ok o → Made some (λ a. Ok (some a)) o ⊎ (o ≡ none)
  sides none h = inr refl
  sides (some a) h = inl (record { of = a; is = refl; ok = h })

  pub joined : Ok none → (o : Option A) → Made some (λ a. Ok (some a)) o ⊎ (o ≡ none) → Ok o
  joined z o = ⊎_elim (λ m. subst Ok m.is m.ok) (λ e. subst Ok (sym e) z)

module _ {A B : Type 0} {text : A → List ℕ → List ℕ} {Ok : A → Type 0} {After : List ℕ → Type 0} {p : Reader A} (P : Reads text Ok After p) where
  pub into_reads : (f : A → B) (text' : B → List ℕ → List ℕ) → ((a : A) (r : List ℕ) → text' (f a) r ≡ text a r) → Reads text' (Made f Ok) After (into f p)
  unfolding into
  into_reads f text' same =
      record {
        plain = λ b r m.
            subst (λ (b : B). text' b r ≡ text' b [] ++ r) m.is
            (same m.of r ∙ P.plain m.of r m.ok ∙ ap (λ (l : List ℕ). l ++ r) (sym (same m.of [])));
        complete = λ b r m k.
            subst (λ (b : B). on_found (p (text' b r)) (λ a n. found (f a) n) ≡ found b (length (text' b []))) m.is
            (rw (same m.of r, P.complete m.of r m.ok k, same m.of []));
        sound = λ s b n e. let t = through (p s) _ e in
            let g = P.sound s t.value t.bytes t.first in
            same_front t.second (record {
              ok = record { of = t.value; is = refl; ok = g.ok };
              split = g.split ∙ sym (same t.value (drop t.bytes s));
              size = g.size ∙ ap length (sym (same t.value []));
            });
      }

  -- where each value comes of one, by g
  pub fields_reads : (f : A → B) (g : B → A) (text' : B → List ℕ → List ℕ) {Ok' : B → Type 0} → ((b : B) → f (g b) ≡ b) → ((a : A) (r : List ℕ) → text' (f a) r ≡ text a r)
      → ((b : B) → Ok' b → Ok (g b)) → ((a : A) → Ok a → Ok' (f a)) → Reads text' Ok' After (into f p)
  fields_reads f g text' {Ok'} back same to from =
      restate (into_reads f text' same) (λ b h. record { of = g b; is = back b; ok = to b h }) (λ b m. subst Ok' m.is (from m.of m.ok))

module _ {A B : Type 0} {ta : A → List ℕ → List ℕ} {tb : B → List ℕ → List ℕ} {OkA : A → Type 0} {OkB : B → Type 0} {AfterA AfterB : List ℕ → Type 0} {p : Reader A} {q : Reader B}
    (P : Reads ta OkA AfterA p) (Q : Reads tb OkB AfterB q) where
  pub next_reads : ((b : B) (r : List ℕ) → OkB b → AfterB r → AfterA (tb b r))
      → Reads (λ (c : A × B) r. ta c.0 (tb c.1 r)) (λ (c : A × B). OkA c.0 × OkB c.1) AfterB (p next q)
  unfolding ◌next◌
  next_reads after =
      record {
        plain = λ c r h.
            P.plain c.0 (tb c.1 r) h.0
            ∙ ap (λ (l : List ℕ). ta c.0 [] ++ l) (Q.plain c.1 r h.1)
            ∙ sym (append_assoc (ta c.0 []) (tb c.1 []) r)
            ∙ ap (λ (l : List ℕ). l ++ r) (sym (P.plain c.0 (tb c.1 []) h.0));
        complete = λ c r h k.
            rw (
              P.complete c.0 (tb c.1 r) h.0 (after c.1 r h.1 k),
              text_over P c.0 (tb c.1 r) h.0,
              Q.complete c.1 r h.1 k,
              text_length P c.0 (tb c.1 []) h.0,
            );
        sound = λ s c n e. let t = through (p s) _ e in
            let u = through (q (drop t.bytes s)) _ t.second in
            let f = P.sound s t.value t.bytes t.first in
            let g = Q.sound (drop t.bytes s) u.value u.bytes u.first in
            same_front u.second (record {
              ok = (f.ok, g.ok);
              split = f.split ∙ ap (ta t.value) (g.split ∙ ap (tb u.value) (drop-drop u.bytes t.bytes s));
              size = ap₂ ◌+◌ f.size g.size ∙ sym (text_length P t.value (tb u.value []) f.ok);
            });
      }

-- the same after a reader that asks for nothing there
pub next_any : {A B : Type 0} {ta : A → List ℕ → List ℕ} {tb : B → List ℕ → List ℕ} {OkA : A → Type 0} {OkB : B → Type 0} {After : List ℕ → Type 0} {p : Reader A} {q : Reader B}
    → Reads ta OkA Any p → Reads tb OkB After q
    → Reads (λ (c : A × B) r. ta c.0 (tb c.1 r)) (λ (c : A × B). OkA c.0 × OkB c.1) After (p next q)
next_any P Q = next_reads P Q (λ b r h k. tt)

module _ {A : Type 0} {After : List ℕ → Type 0} where
  pub always_reads : (text : A → List ℕ → List ℕ) (a : A) → ((r : List ℕ) → text a r ≡ r) → Reads text (λ x. x ≡ a) After (always a)
  always_reads text a same =
      record {
        plain = λ x r e. subst (λ (x : A). text x r ≡ text x [] ++ r) (sym e) (rw (same r, same []));
        complete = λ x r e _. subst (λ (x : A). found a 0 ≡ found x (length (text x []))) (sym e) (rw (same []));
        sound = λ s x n e. same_front e (record { ok = refl; split = sym (same s); size = ap length (sym (same [])) });
      }

  pub never_reads : (text : A → List ℕ → List ℕ) → Reads text (λ x. ⊥) After never
  never_reads text = record { plain = λ x r h. absurd h; complete = λ x r h _. absurd h; sound = λ s x n e. not_found e }

module _ {A : Type 0} {text : A → List ℕ → List ℕ} {OkP OkQ : A → Type 0} {After : List ℕ → Type 0} {p q : Reader A} (b : ℕ)
    (P : Reads (λ a r. drop 1 (text a r)) OkP After p) (Q : Reads text OkQ After q)
    (front : (a : A) (r : List ℕ) → OkP a → is_at (text a r) 0 (suc b) ≡ true) (apart : (a : A) (r : List ℕ) → OkQ a → After r → is_at (text a r) 0 (suc b) ≡ false) where
  led : (a : A) (r : List ℕ) → OkP a → text a r ≡ suc b ∷ drop 1 (text a r)
  led a r h = at_cons (text a r) 0 b (front a r h)

  pub choose_reads : Reads text (λ a. OkP a ⊎ OkQ a) After (choose (suc b) p q)
  unfolding choose
  choose_reads =
      record {
        plain = λ a r h.
            ⊎_elim
            (λ k. led a r k ∙ ap (λ (l : List ℕ). suc b ∷ l) (P.plain a r k) ∙ ap (λ (l : List ℕ). l ++ r) (sym (led a [] k)))
            (Q.plain a r) h;
        complete = λ a r h k.
            ⊎_elim
            (λ m. rw (front a r m, P.complete a r m k) (ap (found a) (let z = ap length (led a [] m) in omega arith)))
            (λ m. rw (apart a r m k) (Q.complete a r m k)) h;
        sound = λ s a n.
            by_test (λ (t : Bool). (if t then on_found (p (drop 1 s)) (λ a n. found a (n + 1)) else q s) ≡ found a n → Front text (λ a. OkP a ⊎ OkQ a) s a n) (is_at s 0 (suc b))
            (λ t e.
            let u = through (p (drop 1 s)) _ e in
            let f = P.sound (drop 1 s) u.value u.bytes u.first in
            let v = u.value in
            let m = u.bytes in
            let far : drop m (drop 1 s) ≡ drop (m + 1) s = drop-drop m 1 s ∙ ap (λ (k : ℕ). drop k s) (add_comm 1 m) in
            same_front u.second (record {
              ok = inl f.ok;
              split =
                  at_cons s 0 b t ∙ ap (λ (l : List ℕ). suc b ∷ l) (f.split ∙ ap (λ (l : List ℕ). drop 1 (text v l)) far)
                  ∙ sym (led v (drop (m + 1) s) f.ok);
              size = let z = ap length (led v [] f.ok) in let y = f.size in omega arith;
            }))
            (λ t e. let f = Q.sound s a n e in record { ok = inr f.ok; split = f.split; size = f.size });
      }

module _ {A : Type 0} {text : A → List ℕ → List ℕ} {Ok : A → Type 0} {After : List ℕ → Type 0} {p : Reader A} (b : ℕ) (P : Reads text Ok After p) where
  pub behind_reads : Reads (λ a r. suc b ∷ text a r) Ok After (behind (suc b) p)
  behind_reads =
      restate (choose_reads b P (never_reads (λ a r. suc b ∷ text a r)) (λ a r h. eq-eqb (suc b) (suc b) refl) (λ a r h _. absurd h))
      (λ a h. inl h) (λ a h. ⊎_elim (λ k. k) (λ k. absurd k) h)

-- ---- items

module _ {A : Type 0} (b : ℕ) (p : Reader A) where
  many_skip : (k : ℕ) (s : List ℕ) → many_from b p k s ≡ many b p (drop k s)
  unfolding many_from
  many_skip zero [] = refl
  many_skip (suc k) [] = refl
  many_skip zero (x ∷ s) = refl
  many_skip (suc k) (x ∷ s) = many_skip k s

module _ {A : Type 0} (b : ℕ) (p : Reader A) where
  pub many_end : (s : List ℕ) → is_at s 0 (suc b) ≡ false → many (suc b) p s ≡ found [] 0
  unfolding many_from
  many_end [] h = refl
  many_end (x ∷ s) h = rw h

  pub many_item : (s : List ℕ) (a : A) (n : ℕ) → is_at s 0 (suc b) ≡ true → p (drop 1 s) ≡ found a n → many (suc b) p s ≡ item_and a n (many (suc b) p (drop n (drop 1 s)))
  unfolding many_from
  many_item [] a n h e = absurd (omega (arith, at_below [] 0 b h))
  many_item (x ∷ s) a n h e = rw (h, e) (ap (item_and a n) (many_skip (suc b) p n s))

  pub many_failed : (s : List ℕ) → is_at s 0 (suc b) ≡ true → p (drop 1 s) ≡ failed → many (suc b) p s ≡ failed
  unfolding many_from
  many_failed [] h e = absurd (omega (arith, at_below [] 0 b h))
  many_failed (x ∷ s) h e = rw (h, e)

module _ {A : Type 0} {text : A → List ℕ → List ℕ} {Ok : A → Type 0} {p : Reader A} (b : ℕ) (P : Reads text Ok Any p) where
  abbrev item : A → List ℕ → List ℕ
  item a r = suc b ∷ text a r

  items_plain : (l : List A) (r : List ℕ) → Each Ok l → each_then item l r ≡ each_then item l [] ++ r
  items_plain [] r h = refl
  items_plain (a ∷ l) r h =
      let B = behind_reads b P in
      ap (item a) (items_plain l r h.1) ∙ B.plain a (each_then item l [] ++ r) h.0
      ∙ sym (append_assoc (item a []) (each_then item l []) r) ∙ ap (λ (t : List ℕ). t ++ r) (sym (B.plain a (each_then item l []) h.0))

  items_complete : (l : List A) (r : List ℕ) → Each Ok l → is_at r 0 (suc b) ≡ false → many (suc b) p (each_then item l r) ≡ found l (length (each_then item l []))
  items_complete [] r h k = many_end b p r k
  items_complete (a ∷ l) r h k =
      let t = each_then item l r in
      let n = length (text a []) in
      let z : n + 1 + length (each_then item l []) ≡ suc (length (text a (each_then item l []))) = let y = text_length P a (each_then item l []) h.0 in omega arith in
      many_item b p (item a t) a n (eq-eqb (suc b) (suc b) refl) (P.complete a t h.0 tt)
      ∙ rw (text_over P a t h.0, items_complete l r h.1 k, z)

  an_item : (x : ℕ) (s : List ℕ) (a : A) (n : ℕ) (l : List A) (k : ℕ) (o : Parsed (List A)) → eqb x (suc b) ≡ true → p s ≡ found a n
      → ((l : List A) (m : ℕ) → o ≡ found l m → Front (each_then item) (Each Ok) (drop n s) l m)
      → item_and a n o ≡ found l k → Front (each_then item) (Each Ok) (x ∷ s) l k
  an_item x s a n l k failed t e f h = not_found h
  an_item x s a n l k (found l' m) t e f h =
      let g = P.sound s a n e in
      let i = f l' m refl in
      let far : drop m (drop n s) ≡ drop (n + 1 + m) (x ∷ s) = drop-drop m n s ∙ ap (λ (k : ℕ). drop k (x ∷ s)) (let z : suc (n + m) ≡ n + 1 + m = omega arith in z) in
      same_front h (record {
        ok = (g.ok, i.ok);
        split = ap (λ (x : ℕ). x ∷ s) (eqb-true x (suc b) t) ∙ ap (λ (s : List ℕ). suc b ∷ s) (g.split ∙ ap (text a) (i.split ∙ ap (each_then item l') far));
        size = let z = g.size in let y = i.size in let w = text_length P a (each_then item l' []) g.ok in omega arith;
      })

  items_sound : (k : ℕ) (s : List ℕ) (l : List A) (n : ℕ) → many_from (suc b) p k s ≡ found l n → Front (each_then item) (Each Ok) (drop k s) l n
  unfolding many_from
  items_sound zero [] l n e = same_front e (record { ok = tt; split = refl; size = refl })
  items_sound (suc k) [] l n e = same_front e (record { ok = tt; split = refl; size = refl })
  items_sound (suc k) (x ∷ s) l n e = items_sound k s l n e
  items_sound zero (x ∷ s) l n e =
      by_test (λ (t : Bool). (if t then on_found (p s) (λ a n. item_and a n (many_from (suc b) p n s)) else found [] 0) ≡ found l n → Front (each_then item) (Each Ok) (x ∷ s) l n) (eqb x (suc b))
      (λ t g.
      let u = through (p s) _ g in
      an_item x s u.value u.bytes l n (many_from (suc b) p u.bytes s) t u.first (items_sound u.bytes s) u.second)
      (λ t g. same_front g (record { ok = tt; split = refl; size = refl }))
      e

  pub many_reads : Reads (each_then item) (Each Ok) (λ r. is_at r 0 (suc b) ≡ false) (many (suc b) p)
  many_reads = record { plain = items_plain; complete = items_complete; sound = items_sound 0 }

-- ---- readers to the end

-- nothing is left after what is found
abbrev pub ToEnd : {A : Type 0} → Reader A → Type 0
ToEnd {A} p = (s : List ℕ) (a : A) (n : ℕ) → p s ≡ found a n → drop n s ≡ []

module _ {A B : Type 0} where
  pub next_to_end : (p : Reader A) {q : Reader B} → ToEnd q → ToEnd (p next q)
  unfolding ◌next◌
  next_to_end p {q} Q s c n e =
      let t = through (p s) _ e in
      let u = through (q (drop t.bytes s)) _ t.second in
      let w = u.second in
      let z : t.bytes + u.bytes ≡ n = cc in
      rw (← z, ← drop-drop) (Q (drop t.bytes s) u.value u.bytes u.first)

  pub into_to_end : (f : A → B) {p : Reader A} → ToEnd p → ToEnd (into f p)
  unfolding into
  into_to_end f {p} P s b n e =
      let t = through (p s) _ e in
      let w = t.second in
      let z : t.bytes ≡ n = cc in
      rw (← z) (P s t.value t.bytes t.first)

module _ {A : Type 0} where
  pub only_to_end : (t : A → Bool) {p : Reader A} → ToEnd p → ToEnd (only t p)
  unfolding only
  only_to_end t {p} P s a n e =
      let u = through (p s) _ e in
      let w = (if_found (t u.value) u.second).1 in
      let z : u.bytes ≡ n = cc in
      rw (← z) (P s u.value u.bytes u.first)

  pub choose_to_end : (b : ℕ) {p q : Reader A} → ToEnd p → ToEnd q → ToEnd (choose b p q)
  unfolding choose
  choose_to_end b {p} {q} P Q s a n =
      by_test (λ (t : Bool). (if t then on_found (p (drop 1 s)) (λ a n. found a (n + 1)) else q s) ≡ found a n → drop n s ≡ []) (is_at s 0 b)
      (λ t e.
      let u = through (p (drop 1 s)) _ e in
      let w = u.second in
      let z : u.bytes + 1 ≡ n = cc in
      rw (← z, add_comm, ← drop-drop) (P (drop 1 s) u.value u.bytes u.first))
      (λ t e. Q s a n e)
