-- Two readings: nothing differs exactly where they are alike, and exchanging them changes neither the fields nor the position (specs/Laws.antt).
use Rattle.std.specs.Prelude.{if◌then◌else◌, Option, Some, None}
use Prim.Native.Nat.{ℕ, zero, suc, ◌≤◌, ◌<◌}
use mathlib.Core.Path.{◌≡◌, refl, sym, ap, ap₂, ◌∙◌}
use mathlib.Core.Bool.{Bool, true, false, not, ◌&&◌, ◌||◌}
use mathlib.Core.List.{List, [], ◌∷◌}
use native.Mathlib.Decide.{ℕ_discrete}
use native.Mathlib.Omega.{arith}
use lib.Dec.{eqb, leb, ltb}
use lib.ListN.{length, get_or}
use lib.IntN.{ℤ, pos, negsuc}
use borrow.Author.Tests.{eq-eqb, eqb-true, ltb-false, le-leb, leb-true, leb-false, not-false}
use Rattle.base.specs.Texts.{same_text}
use Rattle.base.proofs.Tests.{by_test, by_if, both, clash}
use Rattle.base.proofs.Texts.{same_is, same_self}
use Rattle.record.specs.declared.Protocol.{Protocol}
use Rattle.record.specs.declared.Protocol.TheVariants.{Rfc3164, Rfc5424}
use Rattle.differ.specs.declared.Differences.{Differences}
use Rattle.differ.specs.Seen.{Text, Time, Pair, Seen}
use Rattle.differ.specs.Differences.{same_protocol, same_level, same_signed, same_time, same_given, same_pair, occurs, before, has, odd_at, id_at, same_id_at, differs_at, positions, all_positions, first_position, elements_differ, differing, bits, differences_of}
use Rattle.differ.proofs.Parts.{has_none, positions_length, position_at, longer_le, blank_pair}
use Rattle.differ.proofs.Ids.{longer}
use Rattle.compare.specs.Compare.{nothing}
use Rattle.compare.specs.Laws.{Alike, Formed, SameDiffersNowhere, ExchangeKeeps}

-- ---- tests that tell what is equal

record Tells {A : Type 0} (same : A → A → Bool) : Type 0 where
  self : (x : A) → same x x ≡ true
  is : (x y : A) → same x y ≡ true → x ≡ y

module _ {A : Type 0} {same : A → A → Bool} (t : Tells same) where
  tells : (x y : A) → x ≡ y → same x y ≡ true
  tells x y e = ap (same x) (sym e) ∙ t.self x

  swap : (x y : A) → same x y ≡ same y x
  swap x y =
      by_test (λ b. same x y ≡ b → b ≡ same y x) (same x y) (λ h e. sym (tells y x (sym (t.is x y e))))
      (λ h e. by_test (λ b. same y x ≡ b → false ≡ b) (same y x) (λ g f. sym e ∙ tells x y (sym (t.is y x f))) (λ g f. refl) refl) refl

three : (a b c : Bool) → a ≡ true → b ≡ true → c ≡ true → (a && b && c) ≡ true
three a b c p q r = rw (p, q, r) refl

all_three : (a b c : Bool) → (a && b && c) ≡ true → (a ≡ true) × (b ≡ true) × (c ≡ true)
all_three a b c h = let (x, r) = both (a && b) c h in let (p, q) = both a b x in (p, q, r)

of_number : Tells eqb
of_number = record { self = λ n. eq-eqb n n refl; is = eqb-true }

of_text : Tells same_text
of_text = record { self = same_self; is = same_is }

of_protocol : Tells same_protocol
of_protocol = record { self = self; is = is }
  where
    self : (p : Protocol) → same_protocol p p ≡ true
    self Rfc3164 = refl
    self (Rfc5424 v) = eq-eqb v v refl

    is : (p q : Protocol) → same_protocol p q ≡ true → p ≡ q
    is Rfc3164 Rfc3164 h = refl
    is Rfc3164 (Rfc5424 w) h = clash (sym h)
    is (Rfc5424 v) Rfc3164 h = clash (sym h)
    is (Rfc5424 v) (Rfc5424 w) h = ap Rfc5424 (eqb-true v w h)

of_level : Tells same_level
of_level = record { self = self; is = is }
  where
    self : (l : Option ℕ) → same_level l l ≡ true
    self None = refl
    self (Some n) = eq-eqb n n refl

    is : (l m : Option ℕ) → same_level l m ≡ true → l ≡ m
    is None None h = refl
    is None (Some n) h = clash (sym h)
    is (Some m) None h = clash (sym h)
    is (Some m) (Some n) h = ap Some (eqb-true m n h)

of_signed : Tells same_signed
of_signed = record { self = self; is = is }
  where
    self : (x : ℤ) → same_signed x x ≡ true
    self (pos n) = eq-eqb n n refl
    self (negsuc n) = eq-eqb n n refl

    is : (x y : ℤ) → same_signed x y ≡ true → x ≡ y
    is (pos m) (pos n) h = ap pos (eqb-true m n h)
    is (pos m) (negsuc n) h = clash (sym h)
    is (negsuc m) (pos n) h = clash (sym h)
    is (negsuc m) (negsuc n) h = ap negsuc (eqb-true m n h)

of_time : Tells same_time
of_time = record { self = self; is = is }
  where
    self : (t : Time) → same_time t t ≡ true
    self Time.untimed = refl
    self (Time.timed s n o) = three (same_signed s s) (eqb n n) (same_signed o o) (of_signed.self s) (eq-eqb n n refl) (of_signed.self o)

    is : (t u : Time) → same_time t u ≡ true → t ≡ u
    is Time.untimed Time.untimed h = refl
    is Time.untimed (Time.timed s n o) h = clash (sym h)
    is (Time.timed s n o) Time.untimed h = clash (sym h)
    is (Time.timed s n o) (Time.timed t m p) h =
        let (x, y, z) = all_three (same_signed s t) (eqb n m) (same_signed o p) h in
        let es : s ≡ t = of_signed.is s t x in
        let en : n ≡ m = eqb-true n m y in
        let eo : o ≡ p = of_signed.is o p z in
        rw (es, en, eo) refl

of_given : Tells same_given
of_given = record { self = self; is = is }
  where
    self : (t : Text) → same_given t t ≡ true
    self Text.missing = refl
    self (Text.given t) = same_self t

    is : (s t : Text) → same_given s t ≡ true → s ≡ t
    is Text.missing Text.missing h = refl
    is Text.missing (Text.given t) h = clash (sym h)
    is (Text.given s) Text.missing h = clash (sym h)
    is (Text.given s) (Text.given t) h = ap Text.given (same_is s t h)

pair_is : (e f : ℕ) (n m v u : List ℕ) → e ≡ f → n ≡ m → v ≡ u → ◌≡◌ {A = Pair} (record { element = e; name = n; value = v }) (record { element = f; name = m; value = u })
pair_is e f n m v u x y z = rw (x, y, z) refl

of_pair : Tells same_pair
of_pair = record { self = self; is = is }
  where
    self : (p : Pair) → same_pair p p ≡ true
    self p =
        three (eqb p.element p.element) (same_text p.name p.name) (same_text p.value p.value) (eq-eqb p.element p.element refl) (same_self p.name) (same_self p.value)

    is : (p q : Pair) → same_pair p q ≡ true → p ≡ q
    is p q h =
        let (x, y, z) = all_three (eqb p.element q.element) (same_text p.name q.name) (same_text p.value q.value) h in
        pair_is p.element q.element p.name q.name p.value q.value (eqb-true p.element q.element x) (same_is p.name q.name y) (same_is p.value q.value z)

-- ---- the first that passes a test

neither : (a b : Bool) → (a || b) ≡ false → (a ≡ false) × (b ≡ false)
neither true b h = clash h
neither false b h = (refl, h)

and_false : (b : Bool) → (b && false) ≡ false
and_false true = refl
and_false false = refl

module _ {A : Type 0} (d : A) (test : A → Bool) where
  before_all : (xs : List A) → length xs ≤ before test xs → (i : ℕ) → i < length xs → test (get_or xs i d) ≡ false
  unfolding before
  before_all [] h i l = absurd (omega arith)
  before_all (x ∷ xs) h zero l =
      by_test (λ t. test x ≡ t → suc (length xs) ≤ (if t then 0 else suc (before test xs)) → test x ≡ false) (test x) (λ q e g. absurd (omega arith)) (λ q e g. e) refl h
  before_all (x ∷ xs) h (suc i) l =
      by_test (λ t. suc (length xs) ≤ (if t then 0 else suc (before test xs)) → test (get_or xs i d) ≡ false) (test x)
      (λ q g. absurd (omega arith)) (λ q g. before_all xs (omega arith) i (omega arith)) h

  -- where none passes it
  has_clear : (xs : List A) → has test xs ≡ false → (i : ℕ) → i < length xs → test (get_or xs i d) ≡ false
  has_clear xs h = before_all xs (ltb-false (before test xs) (length xs) h)

  module _ (other : A → Bool) (e : (x : A) → test x ≡ other x) where
    before_same : (xs : List A) → before test xs ≡ before other xs
    unfolding before
    before_same [] = refl
    before_same (x ∷ xs) = rw (e x, before_same xs) refl

    has_same : (xs : List A) → has test xs ≡ has other xs
    has_same xs = ap (λ (n : ℕ). ltb n (length xs)) (before_same xs)

-- ---- alike, so nothing differs

module _ (a b : Seen) (h : Alike a b) where
  quiet : (k : ℕ) (p : Pair) → odd_at a.pairs b.pairs k p ≡ false
  quiet k p = ap (λ (t : Bool). eqb p.element k && not t) (eq-eqb (occurs p a.pairs) (occurs p b.pairs) (h.pairs p)) ∙ and_false (eqb p.element k)

  no_position : (k : ℕ) → differs_at a b k ≡ false
  no_position k =
      let s : same_id_at a b k ≡ true = tells of_given (id_at a.ids k) (id_at b.ids k) (ap (λ (l : List (List ℕ)). id_at l k) h.ids) in
      let x = has_none blank_pair (odd_at a.pairs b.pairs k) a.pairs (λ i l. quiet k (get_or a.pairs i blank_pair)) in
      let y = has_none blank_pair (odd_at a.pairs b.pairs k) b.pairs (λ i l. quiet k (get_or b.pairs i blank_pair)) in
      rw (s, x, y) refl

  no_elements : elements_differ a b ≡ false
  no_elements = has_none 0 (differs_at a b) (all_positions a b) (λ i l. no_position (get_or (all_positions a b) i 0))

  pub alike_nothing : differences_of a b ≡ nothing
  alike_nothing =
      rw (
        no_elements,
        tells of_protocol a.protocol b.protocol h.protocol,
        tells of_level a.facility b.facility h.facility,
        tells of_level a.severity b.severity h.severity,
        tells of_time a.time b.time h.time,
        tells of_given a.host b.host h.host,
        tells of_given a.app b.app h.app,
        tells of_given a.procid b.procid h.procid,
        tells of_given a.msgid b.msgid h.msgid,
        tells of_text a.message b.message h.message,
      )
      refl

pub same_nowhere : SameDiffersNowhere
same_nowhere a =
    alike_nothing a a
    (record {
      protocol = refl;
      facility = refl;
      severity = refl;
      time = refl;
      host = refl;
      app = refl;
      procid = refl;
      msgid = refl;
      ids = refl;
      pairs = λ p. refl;
      message = refl;
    })

-- ---- nothing differs, so alike

fields_are : (a b : Seen) → (differences_of a b).fields ≡ bits (differing a b)
fields_are a b = by_if (λ (d : Differences). d.fields ≡ bits (differing a b)) (elements_differ a b) _ _ (λ q. refl) (λ q. refl)

all_clear : (ts : List Bool) → bits ts ≡ 0 → (i : ℕ) → get_or ts i false ≡ false
all_clear [] h i = refl
all_clear (true ∷ ts) h i = absurd (omega arith)
all_clear (false ∷ ts) h zero = refl
all_clear (false ∷ ts) h (suc i) = all_clear ts (omega arith) i

-- a pair that occurs is one of them
pub occurs_one : (p : Pair) (qs : List Pair) (test : Pair → Bool) → ((i : ℕ) → i < length qs → test (get_or qs i blank_pair) ≡ false) → (occurs p qs ≡ 0 → ⊥) → test p ≡ false
unfolding occurs
occurs_one p [] test f h = absurd (h refl)
occurs_one p (q ∷ qs) test f h =
    by_test (λ t. same_pair p q ≡ t → ((if t then suc (occurs p qs) else occurs p qs) ≡ 0 → ⊥) → test p ≡ false) (same_pair p q)
    (λ e s g. ap test (of_pair.is p q s) ∙ f 0 (omega arith)) (λ e s g. occurs_one p qs test (λ i l. f (suc i) (omega arith)) g) refl h

ids_are : (xs ys : List (List ℕ)) → ((k : ℕ) → k < length xs → same_given (id_at xs k) (id_at ys k) ≡ true) → ((k : ℕ) → k < length ys → same_given (id_at xs k) (id_at ys k) ≡ true) → xs ≡ ys
ids_are [] [] f g = refl
ids_are [] (t ∷ ys) f g = clash (sym (g 0 (omega arith)))
ids_are (s ∷ xs) [] f g = clash (sym (f 0 (omega arith)))
ids_are (s ∷ xs) (t ∷ ys) f g =
    ap₂ (λ (x : List ℕ) (l : List (List ℕ)). x ∷ l) (same_is s t (f 0 (omega arith))) (ids_are xs ys (λ k l. f (suc k) (omega arith)) (λ k l. g (suc k) (omega arith)))

module _ (a b : Seen) (h : elements_differ a b ≡ false) where
  abbrev most : ℕ
  most = longer (length a.ids) (length b.ids)

  alike_at : (k : ℕ) → k < most → differs_at a b k ≡ false
  alike_at k l =
      ap (differs_at a b) (sym (position_at most k l)) ∙ has_clear 0 (differs_at a b) (positions 0 most) h k (omega (arith, positions_length 0 most))

  record Even (k : ℕ) : Type 0 where
    one_id : same_id_at a b k ≡ true
    first : has (odd_at a.pairs b.pairs k) a.pairs ≡ false
    second : has (odd_at a.pairs b.pairs k) b.pairs ≡ false

  even_at : (k : ℕ) → k < most → Even k
  even_at k l =
      let (u, y) = neither (not (same_id_at a b k) || has (odd_at a.pairs b.pairs k) a.pairs) (has (odd_at a.pairs b.pairs k) b.pairs) (alike_at k l) in
      let (s, x) = neither (not (same_id_at a b k)) (has (odd_at a.pairs b.pairs k) a.pairs) u in
      record { one_id = not-false (same_id_at a b k) s; first = x; second = y }

  same_ids : a.ids ≡ b.ids
  same_ids =
      let l = longer_le (length a.ids) (length b.ids) in
      ids_are a.ids b.ids (λ k g. (even_at k (omega (arith, l.0))).one_id) (λ k g. (even_at k (omega (arith, l.1))).one_id)

  -- a pair that occurs in one of them
  as_often : (p : Pair) (qs : List Pair) → has (odd_at a.pairs b.pairs p.element) qs ≡ false → (occurs p qs ≡ 0 → ⊥) → occurs p a.pairs ≡ occurs p b.pairs
  as_often p qs c o =
      let m = occurs p a.pairs in
      let n = occurs p b.pairs in
      let odd : odd_at a.pairs b.pairs p.element p ≡ false = occurs_one p qs (odd_at a.pairs b.pairs p.element) (has_clear blank_pair (odd_at a.pairs b.pairs p.element) qs c) o in
      let even : not (eqb m n) ≡ false = ap (λ (t : Bool). t && not (eqb m n)) (sym (eq-eqb p.element p.element refl)) ∙ odd in
      eqb-true m n (not-false (eqb m n) even)

  module _ (fa : Formed a) (fb : Formed b) where
    same_pairs : (p : Pair) → occurs p a.pairs ≡ occurs p b.pairs
    same_pairs p = go (ℕ_discrete (occurs p a.pairs) 0) (ℕ_discrete (occurs p b.pairs) 0)
      where
        go : Dec (occurs p a.pairs ≡ 0) → Dec (occurs p b.pairs ≡ 0) → occurs p a.pairs ≡ occurs p b.pairs
        go (yes x) (yes y) = x ∙ sym y
        go (no x) y = let l = longer_le (length a.ids) (length b.ids) in let g = fa p x in as_often p a.pairs (even_at p.element (omega (arith, l.0))).first x
        go (yes x) (no y) = let l = longer_le (length a.ids) (length b.ids) in let g = fb p y in as_often p b.pairs (even_at p.element (omega (arith, l.1))).second y

module _ (a b : Seen) (fa : Formed a) (fb : Formed b) (h : (differences_of a b).fields ≡ 0) where
  clear : (k : ℕ) → get_or (differing a b) k false ≡ false
  clear = all_clear (differing a b) (sym (fields_are a b) ∙ h)

  pub nothing_alike : Alike a b
  nothing_alike =
      record {
        protocol = of_protocol.is a.protocol b.protocol (not-false _ (clear 0));
        facility = of_level.is a.facility b.facility (not-false _ (clear 1));
        severity = of_level.is a.severity b.severity (not-false _ (clear 2));
        time = of_time.is a.time b.time (not-false _ (clear 3));
        host = of_given.is a.host b.host (not-false _ (clear 4));
        app = of_given.is a.app b.app (not-false _ (clear 5));
        procid = of_given.is a.procid b.procid (not-false _ (clear 6));
        msgid = of_given.is a.msgid b.msgid (not-false _ (clear 7));
        ids = same_ids a b (clear 8);
        pairs = same_pairs a b (clear 8) fa fb;
        message = of_text.is a.message b.message (not-false _ (clear 9));
      }

-- ---- exchanged

longer_swap : (m n : ℕ) → longer m n ≡ longer n m
longer_swap m n =
    by_test (λ t. leb m n ≡ t → (if t then n else m) ≡ longer n m) (leb m n)
    (λ q e. by_test (λ t. leb n m ≡ t → n ≡ (if t then m else n)) (leb n m) (λ p f. let x = leb-true m n e in let y = leb-true n m f in omega arith) (λ p f. refl) refl)
    (λ q e. let l = leb-false m n e in ap (λ (t : Bool). if t then m else n) (sym (le-leb n m (omega arith)))) refl

or_swap : (x y z : Bool) → (x || y || z) ≡ (x || z || y)
or_swap true y z = refl
or_swap false true true = refl
or_swap false true false = refl
or_swap false false true = refl
or_swap false false false = refl

module _ (a b : Seen) where
  odd_swap : (k : ℕ) (p : Pair) → odd_at a.pairs b.pairs k p ≡ odd_at b.pairs a.pairs k p
  odd_swap k p = ap (λ (t : Bool). eqb p.element k && not t) (swap of_number (occurs p a.pairs) (occurs p b.pairs))

  differs_swap : (k : ℕ) → differs_at a b k ≡ differs_at b a k
  differs_swap k =
      let x = has_same blank_pair (odd_at a.pairs b.pairs k) (odd_at b.pairs a.pairs k) (odd_swap k) a.pairs in
      let y = has_same blank_pair (odd_at a.pairs b.pairs k) (odd_at b.pairs a.pairs k) (odd_swap k) b.pairs in
      rw (swap of_given (id_at a.ids k) (id_at b.ids k), x, y)
      (or_swap (not (same_id_at b a k)) (has (odd_at b.pairs a.pairs k) a.pairs) (has (odd_at b.pairs a.pairs k) b.pairs))

  positions_swap : all_positions a b ≡ all_positions b a
  positions_swap = ap (positions 0) (longer_swap (length a.ids) (length b.ids))

  first_swap : first_position a b ≡ first_position b a
  first_swap = before_same 0 (differs_at a b) (differs_at b a) differs_swap (all_positions a b) ∙ ap (before (differs_at b a)) positions_swap

  elements_swap : elements_differ a b ≡ elements_differ b a
  elements_swap = has_same 0 (differs_at a b) (differs_at b a) differs_swap (all_positions a b) ∙ ap (has (differs_at b a)) positions_swap

  fields_swap : bits (differing a b) ≡ bits (differing b a)
  fields_swap =
      rw (
        elements_swap,
        swap of_protocol a.protocol b.protocol,
        swap of_level a.facility b.facility,
        swap of_level a.severity b.severity,
        swap of_time a.time b.time,
        swap of_given a.host b.host,
        swap of_given a.app b.app,
        swap of_given a.procid b.procid,
        swap of_given a.msgid b.msgid,
        swap of_text a.message b.message,
      )
      refl

position_is : (a b : Seen) → (differences_of a b).position ≡ (if elements_differ a b then first_position a b else 0)
position_is a b = by_test (λ t. elements_differ a b ≡ t → (differences_of a b).position ≡ (if t then first_position a b else 0)) (elements_differ a b) (λ q e. rw e refl) (λ q e. rw e refl) refl

pub exchange_keeps : ExchangeKeeps
exchange_keeps a b = (
  fields_are a b ∙ fields_swap a b ∙ sym (fields_are b a),
  position_is a b ∙ ap₂ (λ (t : Bool) (k : ℕ). if t then k else 0) (elements_swap a b) (first_swap a b) ∙ sym (position_is b a),
)
