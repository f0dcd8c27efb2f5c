-- Whether an id of 31 bytes is used, and all ids that are it and a byte more.
use Rattle.std.specs.Prelude.{if◌then◌else◌}
use Prim.Native.Nat.{ℕ, zero, suc, ◌+◌, ◌^◌, ◌≤◌, ◌<◌}
use mathlib.Core.Path.{◌≡◌, refl, sym, ap, ap₂, ◌∙◌, subst}
use mathlib.Core.Bool.{Bool, true, false, not, ◌&&◌, ◌||◌}
use mathlib.Core.List.{List, [], ◌∷◌, ◌++◌}
use native.Mathlib.Omega.{arith}
use native.Mathlib.Decide.{ℕ_discrete}
use mir.Syntax.{w64}
use mir.Val.{Fits}
use lib.ListN.{length, get_or, set, take, drop, replicate, length-drop, length-append, length-set, length-replicate, get_or-eq_default}
use lib.Seq.{take-add, take_all, length-take-le, get_or-set_same, get_or-set_other, get_or-append_seam, take-append_seam}
use lib.Dec.{leb, eqb}
use borrow.Author.Tests.{le-leb, lt-leb, leb-true, leb-false, eqb-true, eq-eqb, ne_eqb}
use Rattle.base.specs.Texts.{same_text}
use Rattle.base.proofs.Tests.{clash, both, by_test}
use Rattle.base.proofs.Texts.{same_is, same_self}
use Rattle.base.proofs.Parts.{step}
use Rattle.base.proofs.Runs.{all_at}
use Rattle.distinct.specs.Distinct.{id_of, Rows}
use Rattle.distinct.proofs.Ids.{rows_less}
use Rattle.grammar.specs.Abnf.{sd_name_byte, Repeat}
use Rattle.viable.specs.Ids.{is_used, is_unused, is_free, any_below, alive, is_shut}
use Rattle.viable.proofs.Ids.{any_yes, name_below}
use Rattle.reach_data.specs.Rows.{used_to, near_of, shut_at, id_end, Named, Long, is_like, is_marked, Marks, Clear, mark_of, marks_with, is_asked, is_unseen}

-- ---- one id

module _ (t : List ℕ) (l : length t ≡ 31) (v : List ℕ) (n : Repeat 1 32 sd_name_byte v) where
  likes : (c : ℕ) → (is_like t v && eqb (get_or v 31 0) c) ≡ true → (31 ≤ length v) × ((take 31 v ≡ t) × (get_or v 31 0 ≡ c))
  likes c h =
      let (a, b) = both (is_like t v) (eqb (get_or v 31 0) c) h in
      let (d, e) = both (leb 31 (length v)) (same_text (take 31 v) t) a in
      (leb-true 31 (length v) d, (same_is (take 31 v) t e, eqb-true (get_or v 31 0) c b))

  same_or_not : (x y : Bool) → (y ≡ true → x ≡ true) → (x ≡ true → y ≡ true) → x ≡ y
  same_or_not true true f g = refl
  same_or_not false false f g = refl
  same_or_not true false f g = clash (sym (g refl))
  same_or_not false true f g = sym (clash (sym (f refl)))

  like_none : (is_like t v && eqb (get_or v 31 0) 0) ≡ same_text v t
  like_none = same_or_not _ _
      (λ h.
      let e = same_is v t h in
      let a : take 31 t ≡ t = take_all 31 t (omega arith) in
      let b : get_or t 31 0 ≡ 0 = get_or-eq_default t 0 (omega arith) in
      rw (e, l, a, same_self t, b))
      (λ h.
      let k = likes 0 h in
      let m = n.at_most in
      by_test (λ q. leb 32 (length v) ≡ q → same_text v t ≡ true) (leb 32 (length v))
      (λ _ q.
      let z : sd_name_byte (get_or v 31 0) ≡ true = all_at sd_name_byte v 31 n.all (leb-true 32 (length v) q) in
      clash (sym z ∙ ap sd_name_byte k.1.1))
      (λ _ q.
      let w = leb-false 32 (length v) q in
      let e : v ≡ t = sym (take_all 31 v (omega arith)) ∙ k.1.0 in
      rw e (same_self t))
      refl)

  like_byte : (c : ℕ) → sd_name_byte c ≡ true → (is_like t v && eqb (get_or v 31 0) c) ≡ same_text v (t ++ c ∷ [])
  like_byte c hc = same_or_not _ _
      (λ h.
      let e = same_is v (t ++ c ∷ []) h in
      let a : take 31 (t ++ c ∷ []) ≡ t = ap (λ (k : ℕ). take k (t ++ c ∷ [])) (sym l) ∙ take-append_seam t (c ∷ []) in
      let b : get_or (t ++ c ∷ []) 31 0 ≡ c = ap (λ (k : ℕ). get_or (t ++ c ∷ []) k 0) (sym l) ∙ get_or-append_seam t c [] 0 in
      let d : leb 31 (length (t ++ c ∷ [])) ≡ true = le-leb 31 (length (t ++ c ∷ [])) (omega (arith, length-append t (c ∷ []))) in
      rw (e, d, a, same_self t, b, eq-eqb c c refl))
      (λ h.
      let k = likes c h in
      let m = n.at_most in
      by_test (λ q. leb 32 (length v) ≡ q → same_text v (t ++ c ∷ []) ≡ true) (leb 32 (length v))
      (λ _ q.
      let w = leb-true 32 (length v) q in
      let one : take 1 (drop 31 v) ≡ c ∷ [] = ap (take 1) (step v 31 (omega arith)) ∙ ap (λ (x : ℕ). x ∷ []) k.1.1 in
      let e : v ≡ t ++ c ∷ [] = sym (take_all 32 v (omega arith)) ∙ take-add 31 1 v ∙ ap₂ (λ (x y : List ℕ). x ++ y) k.1.0 one in
      rw e (same_self (t ++ c ∷ [])))
      (λ _ q.
      let w = leb-false 32 (length v) q in
      let z : 0 ≡ c = sym (get_or-eq_default v 0 (omega arith)) ∙ k.1.1 in
      clash (sym hc ∙ ap sd_name_byte (sym z)))
      refl)

-- ---- the first ids

module _ (id : ℕ → List ℕ) (t : List ℕ) (l : length t ≡ 31) where
  mark_none : (k : ℕ) → ((i : ℕ) → i < k → Repeat 1 32 sd_name_byte (id i)) → is_marked id t k 0 ≡ is_used (used_to id k) t
  mark_none zero n = refl
  mark_none (suc k) n = ap₂ ◌||◌ (like_none t l (id k) (n k (omega arith))) (mark_none k (λ i h. n i (omega arith)))

  mark_byte : (c : ℕ) → sd_name_byte c ≡ true → (k : ℕ) → ((i : ℕ) → i < k → Repeat 1 32 sd_name_byte (id i)) → is_marked id t k c ≡ is_used (used_to id k) (t ++ c ∷ [])
  mark_byte c hc zero n = refl
  mark_byte c hc (suc k) n = ap₂ ◌||◌ (like_byte t l (id k) (n k (omega arith)) c hc) (mark_byte c hc k (λ i h. n i (omega arith)))

-- ---- the marks tell

or_else : Bool → Bool → Bool
or_else b x = elim b [ true ↦ true | false ↦ x ]

any_below_lem : (n : ℕ) (f g : ℕ → Bool) → ((c : ℕ) → c < n → f c ≡ g c) → any_below n f ≡ any_below n g
unfolding any_below or_else
any_below_lem zero f g h = refl
any_below_lem (suc n) f g h = ap₂ or_else (h n (omega arith)) (any_below_lem n f g (λ c l. h c (omega arith)))

module _ (id : ℕ → List ℕ) (t : List ℕ) (l : length t ≡ 31) (k : ℕ) (n : (i : ℕ) → i < k → Repeat 1 32 sd_name_byte (id i)) (seen : List ℕ) (m : Marks id t k seen) where
  abbrev used : List (List ℕ)
  used = used_to id k

  abbrev free : ℕ → Bool
  free c = elim (sd_name_byte c) [ true ↦ is_free used (t ++ c ∷ []) | false ↦ false ]

  unseen_none : is_unseen seen 0 ≡ is_unused used t
  unseen_none = ap not (m.tell 0 (omega arith) ∙ mark_none id t l k n)

  unseen_free : is_used used t ≡ true → (c : ℕ) → c < 127 → is_unseen seen c ≡ free c
  unseen_free u c h =
      by_test (λ b. sd_name_byte c ≡ b → ((eqb c 0 || b) && not (eqb (get_or seen c 0) 1)) ≡ (elim b [ true ↦ is_free used (t ++ c ∷ []) | false ↦ false ])) (sd_name_byte c)
      (λ _ b.
      let z : eqb c 0 ≡ false = ne_eqb c 0 (λ q. clash (sym b ∙ ap sd_name_byte q)) in
      let e : leb 1 (length (t ++ c ∷ [])) ≡ true = le-leb 1 (length (t ++ c ∷ [])) (omega (arith, length-append t (c ∷ []))) in
      rw (z, e) (ap not (m.tell c (omega arith) ∙ mark_byte id t l c b k n)))
      (λ _ b.
      by_test (λ q. eqb c 0 ≡ q → ((q || false) && not (eqb (get_or seen c 0) 1)) ≡ false) (eqb c 0)
      (λ _ q. rw (eqb-true c 0 q) (unseen_none ∙ ap not u))
      (λ _ q. refl)
      refl)
      refl

  pub shut_told : not (any_below 127 (is_unseen seen)) ≡ is_shut used t
  unfolding alive
  shut_told =
      by_test (λ u. is_used used t ≡ u → not (any_below 127 (is_unseen seen)) ≡ not (if leb 1 (length t) && not u then true else any_below 127 free)) (is_used used t)
      (λ _ u. rw (le-leb 1 (length t) (omega arith)) (ap not (any_below_lem 127 (is_unseen seen) free (unseen_free u))))
      (λ _ u.
      let a : any_below 127 (is_unseen seen) ≡ true = any_yes 127 (is_unseen seen) 0 (omega arith) (unseen_none ∙ ap not u) in
      rw (le-leb 1 (length t) (omega arith)) (ap not a))
      refl

-- ---- two ids

module _ (own other : List ℕ) where
  pub alike_short : length other < 31 → false ≡ is_like (take 31 own) other
  alike_short h = rw (lt-leb 31 (length other) h)

  pub alike_is : 31 ≤ length other → (r : Bool) → r ≡ same_text (take 31 other) (take 31 own) → r ≡ is_like (take 31 own) other
  alike_is h r e = e ∙ rw (le-leb 31 (length other) h)

  pub marked_one : (seen : List ℕ) (c : ℕ) → c ≡ get_or other 31 0 → (k : Bool) → k ≡ is_like (take 31 own) other → (v : ℕ) → v ≡ mark_of (get_or seen c 0) k
      → set seen c v ≡ marks_with (take 31 own) other seen
  marked_one seen c ec k ek v ev = rw (ev, ek, ec)

pub ruleset alike_laws = (alike_short, alike_is, marked_one)

-- one id more
last_byte : (v : List ℕ) → Repeat 1 32 sd_name_byte v → get_or v 31 0 < 256
last_byte v n =
    by_test (λ q. leb 32 (length v) ≡ q → get_or v 31 0 < 256) (leb 32 (length v))
    (λ _ q. let z = name_below (get_or v 31 0) (all_at sd_name_byte v 31 n.all (leb-true 32 (length v) q)) in omega arith)
    (λ _ q. let z : get_or v 31 0 ≡ 0 = get_or-eq_default v 0 (let w = leb-false 32 (length v) q in omega arith) in omega arith)
    refl

marks_more : (id : ℕ → List ℕ) (t : List ℕ) (i : ℕ) → Repeat 1 32 sd_name_byte (id i) → (seen : List ℕ) → Marks id t i seen → Marks id t (suc i) (marks_with t (id i) seen)
marks_more id t i n seen m =
    record { size = length-set seen (get_or (id i) 31 0) (mark_of (get_or seen (get_or (id i) 31 0) 0) (is_like t (id i))) ∙ m.size; tell = λ d l. go d l (ℕ_discrete d (get_or (id i) 31 0)) }
  where
    go : (d : ℕ) → d < 256 → Dec (d ≡ get_or (id i) 31 0) → eqb (get_or (marks_with t (id i) seen) d 0) 1 ≡ ((is_like t (id i) && eqb (get_or (id i) 31 0) d) || is_marked id t i d)
    go d l (yes z) =
        let c = get_or (id i) 31 0 in
        let b = last_byte (id i) n in
        rw (z, get_or-set_same seen c (mark_of (get_or seen c 0) (is_like t (id i))) 0 (omega (arith, m.size)), eq-eqb c c refl)
        (by_test (λ q. eqb (if q then 1 else get_or seen c 0) 1 ≡ ((q && true) || is_marked id t i c)) (is_like t (id i)) (λ _. refl) (λ _. m.tell c b))
    go d l (no z) =
        let c = get_or (id i) 31 0 in
        rw (get_or-set_other seen c d (mark_of (get_or seen c 0) (is_like t (id i))) 0 z, ne_eqb c d (λ q. z (sym q)))
        (by_test (λ q. eqb (get_or seen d 0) 1 ≡ ((q && false) || is_marked id t i d)) (is_like t (id i)) (λ _. m.tell d l) (λ _. m.tell d l))

-- ---- the loop that marks

pub record Marking (s starts lens : List ℕ) (j i : ℕ) (seen : List ℕ) : Type 0 where
  pub long : Long s starts lens j
  pub passed : i ≤ j
  pub marks : Marks (id_of s starts lens) (take 31 (id_of s starts lens j)) i seen

pub marking_start : (s starts lens : List ℕ) (j : ℕ) (seen : List ℕ) → Long s starts lens j → Clear seen → Marking s starts lens j 0 seen
marking_start s starts lens j seen l c =
    record { long = l; passed = omega arith; marks = record { size = c.size; tell = λ d h. rw (c.clear d) } }

-- the id of row j has as many bytes as the row says
row_length : (s starts lens : List ℕ) (j : ℕ) → Rows s starts lens (j + 1) → length (id_of s starts lens j) ≡ get_or lens j 0
row_length s starts lens j r =
    let i = r.inside j (omega arith) in
    length-take-le (get_or lens j 0) (drop (get_or starts j 0) s) (omega (arith, length-drop (get_or starts j 0) s))

module _ (s starts lens : List ℕ) (j : ℕ) (l : Long s starts lens j) where
  pub own_rows : Rows s starts lens (j + 1)
  own_rows = l.named.rows

  own_long : 31 ≤ length (id_of s starts lens j)
  own_long = omega (arith, l.long, row_length s starts lens j l.named.rows)

  pub own_is_long : (own : List ℕ) → own ≡ id_of s starts lens j → 31 ≤ length own
  own_is_long own e = omega (arith, own_long, ap length e)

  pub own_31 : length (take 31 (id_of s starts lens j)) ≡ 31
  own_31 = length-take-le 31 (id_of s starts lens j) own_long

module _ (s starts lens : List ℕ) (j i : ℕ) (seen : List ℕ) (w : Marking s starts lens j i seen) where
  pub marking_end : j ≤ i → Marks (id_of s starts lens) (take 31 (id_of s starts lens j)) j seen
  marking_end h = subst (λ (k : ℕ). Marks (id_of s starts lens) (take 31 (id_of s starts lens j)) k seen) (let z : i ≡ j = omega (arith, w.passed) in z) w.marks

  pub marking_size : length seen ≡ 256
  marking_size = w.marks.size

  module _ (h : i < j) where
    pub marking_rows : Rows s starts lens (i + 1)
    marking_rows = rows_less s starts lens (j + 1) (i + 1) w.long.named.rows (omega arith)

    pub marking_next : (own other : List ℕ) → own ≡ id_of s starts lens j → other ≡ id_of s starts lens i → (seen' : List ℕ) → seen' ≡ marks_with (take 31 own) other seen
        → Marking s starts lens j (i + 1) seen'
    marking_next own other eo e seen' es =
        record {
          long = w.long;
          passed = omega arith;
          marks = subst (λ (q : ℕ). Marks (id_of s starts lens) (take 31 (id_of s starts lens j)) q seen') (let z : suc i ≡ i + 1 = omega arith in z)
              (rw (es, eo, e) (marks_more (id_of s starts lens) (take 31 (id_of s starts lens j)) i (w.long.named.names i h) seen w.marks));
        }

pub ruleset marking_laws = (marking_start, marking_end, marking_size, marking_rows, marking_next, own_rows, own_is_long)

-- ---- the loop that looks at the marks

any_step : (n : ℕ) (f : ℕ → Bool) → f n ≡ false → any_below n f ≡ false → any_below (suc n) f ≡ false
unfolding any_below or_else
any_step n f h g = ap₂ or_else h g

pub record Looking (seen : List ℕ) (c : ℕ) : Type 0 where
  pub none : any_below c (is_unseen seen) ≡ false
  pub passed : c ≤ 127
  pub size : length seen ≡ 256

pub looking_start : (seen : List ℕ) → length seen ≡ 256 → Looking seen 0
unfolding any_below
looking_start seen e = record { none = refl; passed = omega arith; size = e }

module _ (seen : List ℕ) (c : ℕ) (w : Looking seen c) where
  pub looking_end : 127 ≤ c → true ≡ not (any_below 127 (is_unseen seen))
  looking_end h = sym (ap not (subst (λ (k : ℕ). any_below k (is_unseen seen) ≡ false) (let z : c ≡ 127 = omega (arith, w.passed) in z) w.none))

  pub looking_in : c < 127 → c < length seen
  looking_in h = omega (arith, w.size)

  module _ (h : c < 127) (a : Bool) (ea : a ≡ is_asked c) where
    seen_is : (x y : Bool) → (a && not x) ≡ y → eqb (get_or seen c 0) 1 ≡ x → is_unseen seen c ≡ y
    seen_is x y e q = ap₂ (λ (u v : Bool). u && not v) (sym ea) q ∙ e

    pub looking_off : (a && not (eqb (get_or seen c 0) 1)) ≡ true → false ≡ not (any_below 127 (is_unseen seen))
    looking_off e = sym (ap not (any_yes 127 (is_unseen seen) c h (seen_is (eqb (get_or seen c 0) 1) true e refl)))

    pub looking_on : (a && not (eqb (get_or seen c 0) 1)) ≡ false → Looking seen (c + 1)
    looking_on e =
        let z : suc c ≡ c + 1 = omega arith in
        let n = any_step c (is_unseen seen) (seen_is (eqb (get_or seen c 0) 1) false e refl) w.none in
        record { none = subst (λ (k : ℕ). any_below k (is_unseen seen) ≡ false) z n; passed = omega arith; size = w.size }

pub ruleset looking_laws = (looking_start, looking_end, looking_in, looking_off, looking_on)

-- ---- where the id of a row breaks

zeros : (n q : ℕ) → ◌≡◌ {A = ℕ} (get_or (replicate n 0) q 0) 0
zeros zero q = refl
zeros (suc n) zero = refl
zeros (suc n) (suc q) = zeros n q

pub seen_clear : Clear (replicate 256 0)
seen_clear = record { size = length-replicate {A = ℕ} 256 0; clear = zeros 256 }

pub shut_is : (s starts lens : List ℕ) (j : ℕ) → Long s starts lens j → (seen : List ℕ) → Marks (id_of s starts lens) (take 31 (id_of s starts lens j)) j seen
    → (r : Bool) → r ≡ not (any_below 127 (is_unseen seen)) → r ≡ shut_at s starts lens j
shut_is s starts lens j l seen m r e = e ∙ shut_told (id_of s starts lens) (take 31 (id_of s starts lens j)) (own_31 s starts lens j l) j l.named.names seen m

module _ (s starts lens : List ℕ) (j : ℕ) (q : Named s starts lens j) where
  pub end_in : (j < length starts) × (j < length lens)
  end_in = (omega (arith, q.rows.starts_given), omega (arith, q.rows.lens_given))

  module _ (start n : ℕ) (es : start ≡ get_or starts j 0) (en : n ≡ get_or lens j 0) where
    inside : start + n ≤ length s
    inside = omega (arith, q.rows.inside j (omega arith))

    pub end_few_fits : length s < 2 ^ 64 → Fits w64 (start + n)
    end_few_fits m = record { fits = omega (arith, inside) }

    pub end_30_fits : 30 < n → length s < 2 ^ 64 → Fits w64 (start + 30)
    end_30_fits h m = record { fits = omega (arith, inside) }

    pub end_31_fits : 30 < n → length s < 2 ^ 64 → Fits w64 (start + 31)
    end_31_fits h m = record { fits = omega (arith, inside) }

    pub end_few : n ≤ 30 → start + n ≡ id_end s starts lens j
    end_few h = rw (← es, ← en, le-leb n 30 h)

    module _ (h : 30 < n) where
      pub end_long : Long s starts lens j
      end_long = record { named = q; long = omega arith }

      module _ (b : Bool) (eb : b ≡ shut_at s starts lens j) where
        pub end_shut : b ≡ true → start + 30 ≡ id_end s starts lens j
        end_shut g = ap₂ ◌+◌ es (sym (ap₂ near_of (sym en) (sym eb ∙ g) ∙ rw (lt-leb n 30 h)))

        pub end_open : b ≡ false → start + 31 ≡ id_end s starts lens j
        end_open g = ap₂ ◌+◌ es (sym (ap₂ near_of (sym en) (sym eb ∙ g) ∙ rw (lt-leb n 30 h)))

pub ruleset end_laws = (end_in, end_few_fits, end_30_fits, end_31_fits, end_few, end_long, end_shut, end_open)
