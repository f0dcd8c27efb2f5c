-- The walk over a value answers how far the reader of values went.
use Rattle.std.specs.Prelude.{if◌then◌else◌, Result, Ok, Err}
use Prim.Native.Nat.{ℕ, zero, suc, ◌+◌, ◌-◌, ◌≤◌, ◌<◌}
use mathlib.Core.Path.{◌≡◌, refl, sym, ap, ◌∙◌}
use mathlib.Core.Bool.{Bool, true, false, not, ◌&&◌, ◌||◌}
use mathlib.Core.List.{List, [], ◌∷◌}
use native.Mathlib.Omega.{arith}
use lib.ListN.{length, get_or, take, drop}
use lib.Dec.{leb, ltb, eqb, leb-suc-suc}
use borrow.Author.Tests.{ltb-true, ltb-false, le-leb, ne_eqb, leb-true}
use Rattle.base.specs.Choose.{within, is_at}
use Rattle.base.proofs.Tests.{clash, by_test}
use Rattle.base.proofs.Ranges.{orders, inside, above, below}
use Rattle.base.proofs.Parts.{step, ended}
use Rattle.utf8.specs.Lead.{lead_of, utf8_from, is_utf8}
use Rattle.utf8.specs.declared.Lead.{Lead}
use Rattle.grammar.specs.Line.{bare}
use Rattle.grammar.specs.Parse.{on_found, only, stop, until_quote, value}
use Rattle.grammar.specs.Parse.Parsed.{failed, found}
use Rattle.viable.specs.Leaves.{utf8_far_from, utf8_far, value_far}
use Rattle.viable.proofs.Texts.{Ready, led_ready, backslash_ready, no_bare}
use Rattle.viable.specs.Walks.{went_of, onward_of, went_at}
use Rattle.viable.proofs.Walks.{onward_twice}
use Rattle.reach_data.specs.Pieces.{value_at}
use Rattle.reach_data.specs.Values.{value_walk}

-- what a value is answered by: where it stops, and how far UTF-8 goes
abbrev least : ℕ → ℕ → ℕ
least a b = if leb a b then a else b

abbrev answer : Bool → Bool → ℕ → ℕ → Result ℕ ℕ
answer quoted utf8 n j = if quoted && utf8 then Ok (n + 1) else Err (least n j)

abbrev whole : Bool → ℕ → ℕ → ℕ → List ℕ → Result ℕ ℕ
whole paired more lo hi s = answer (is_at s (stop paired s) 34) (utf8_from more lo hi (take (stop paired s) s)) (stop paired s) (utf8_far_from more lo hi s)

-- one byte more
answer_on : (q u : Bool) (n j : ℕ) → onward_of 1 (answer q u n j) ≡ answer q u (suc n) (suc j)
answer_on q u n j =
    by_test (λ t. onward_of 1 (if t then Ok (n + 1) else Err (least n j)) ≡ (if t then Ok (suc n + 1) else Err (least (suc n) (suc j)))) (q && u)
    (λ _. ap Ok (let z : 1 + (n + 1) ≡ suc n + 1 = omega arith in z))
    (λ _. ap Err (rw (leb-suc-suc n j) (by_test (λ t. 1 + (if t then n else j) ≡ (if t then suc n else suc j)) (leb n j) (λ _. omega arith) (λ _. omega arith))))

whole_on : (paired : Bool) (more lo hi : ℕ) (s : List ℕ) → onward_of 1 (whole paired more lo hi s)
    ≡ answer (is_at s (stop paired s) 34) (utf8_from more lo hi (take (stop paired s) s)) (suc (stop paired s)) (suc (utf8_far_from more lo hi s))
whole_on paired more lo hi s = answer_on (is_at s (stop paired s) 34) (utf8_from more lo hi (take (stop paired s) s)) (stop paired s) (utf8_far_from more lo hi s)

-- nothing more
answer_no : (q u : Bool) (n j : ℕ) → u ≡ false → j ≡ 0 → answer q u n j ≡ Err 0
answer_no q u n j e z =
    by_test (λ t. (if t then Ok (n + 1) else Err (least n j)) ≡ Err 0) (q && u)
    (λ t. clash (sym (both_no q u t) ∙ e))
    (λ _. ap Err (rw z (by_test (λ t. leb n 0 ≡ t → (if t then n else 0) ≡ 0) (leb n 0) (λ _ t. let l = leb-true n 0 t in omega arith) (λ _ _. refl) refl)))
  where
    both_no : (q u : Bool) → (q && u) ≡ true → u ≡ true
    both_no true u h = h
    both_no false u h = clash (sym h)

-- the whole answer, where the byte in front is bare or not
abbrev cut : ℕ → ℕ → ℕ → ℕ → List ℕ → Bool → Result ℕ ℕ
cut more lo hi b s c =
    let n = (if c then 0 else suc (stop (eqb b 92) s)) in
    answer (is_at (b ∷ s) n 34) (utf8_from more lo hi (take n (b ∷ s))) n (utf8_far_from more lo hi (b ∷ s))

pub walk_whole : (paired : Bool) (more lo hi : ℕ) (s : List ℕ) → Ready paired more lo hi → value_walk paired more lo hi s ≡ whole paired more lo hi s
unfolding value_walk stop utf8_from utf8_far_from
walk_whole paired more lo hi [] r = refl
walk_whole true (suc k) lo hi (b ∷ s) r = absurd (let z = r.apart refl in omega arith)
walk_whole true zero lo hi (b ∷ s) r =
    by_test (λ t. leb 1 (lead_of b).len ≡ t
    → (if t then onward_of 1 (value_walk false ((lead_of b).len - 1) (lead_of b).low (lead_of b).high s) else Err 0)
    ≡ answer (is_at s (stop false s) 34) (t && utf8_from ((lead_of b).len - 1) (lead_of b).low (lead_of b).high (take (stop false s) s)) (suc (stop false s))
    (if t then suc (utf8_far_from ((lead_of b).len - 1) (lead_of b).low (lead_of b).high s) else 0)) (leb 1 (lead_of b).len)
    (λ _ t. ap (onward_of 1) (walk_whole false ((lead_of b).len - 1) (lead_of b).low (lead_of b).high s (led_ready b)) ∙ whole_on false ((lead_of b).len - 1) (lead_of b).low (lead_of b).high s)
    (λ _ t. sym (answer_no (is_at s (stop false s) 34) false (suc (stop false s)) 0 refl refl))
    refl
walk_whole false zero lo hi (b ∷ s) r =
    by_test (λ q. eqb b 34 ≡ q
    → (if q then Ok 1 else if eqb b 93 then Err 0 else if leb 1 (lead_of b).len then onward_of 1 (value_walk (eqb b 92) ((lead_of b).len - 1) (lead_of b).low (lead_of b).high s) else Err 0)
    ≡ cut zero lo hi b s (q || eqb b 93)) (eqb b 34)
    (λ _ q. rw q)
    (λ _ q.
    by_test (λ c. eqb b 93 ≡ c
    → (if c then Err 0 else if leb 1 (lead_of b).len then onward_of 1 (value_walk (eqb b 92) ((lead_of b).len - 1) (lead_of b).low (lead_of b).high s) else Err 0)
    ≡ cut zero lo hi b s c) (eqb b 93)
    (λ _ c. rw (q, le-leb 0 (if leb 1 (lead_of b).len then suc (utf8_far_from ((lead_of b).len - 1) (lead_of b).low (lead_of b).high s) else 0) (omega arith)))
    (λ _ c.
    by_test (λ t. leb 1 (lead_of b).len ≡ t
    → (if t then onward_of 1 (value_walk (eqb b 92) ((lead_of b).len - 1) (lead_of b).low (lead_of b).high s) else Err 0)
    ≡ answer (is_at s (stop (eqb b 92) s) 34) (t && utf8_from ((lead_of b).len - 1) (lead_of b).low (lead_of b).high (take (stop (eqb b 92) s) s)) (suc (stop (eqb b 92) s))
    (if t then suc (utf8_far_from ((lead_of b).len - 1) (lead_of b).low (lead_of b).high s) else 0)) (leb 1 (lead_of b).len)
    (λ _ t.
    ap (onward_of 1) (by_test (λ w. eqb b 92 ≡ w → value_walk w ((lead_of b).len - 1) (lead_of b).low (lead_of b).high s ≡ whole w ((lead_of b).len - 1) (lead_of b).low (lead_of b).high s) (eqb b 92)
    (λ _ w. walk_whole true ((lead_of b).len - 1) (lead_of b).low (lead_of b).high s (backslash_ready b w))
    (λ _ w. walk_whole false ((lead_of b).len - 1) (lead_of b).low (lead_of b).high s (led_ready b))
    refl)
    ∙ whole_on (eqb b 92) ((lead_of b).len - 1) (lead_of b).low (lead_of b).high s)
    (λ _ t. sym (answer_no (is_at s (stop (eqb b 92) s) 34) false (suc (stop (eqb b 92) s)) 0 refl refl))
    refl)
    refl)
    refl
walk_whole false (suc k) lo hi (b ∷ s) r =
    by_test (λ t. within lo hi b ≡ t → (if t then onward_of 1 (value_walk false k 0x80 0xBF s) else Err 0) ≡ cut (suc k) lo hi b s (bare b)) (within lo hi b)
    (λ _ t.
    let o = orders lo hi b t in
    let v = no_bare b (let u = r.tails (omega arith) in omega arith) in
    rw (v.0, v.1, t) (ap (onward_of 1) (walk_whole false k 0x80 0xBF s (record { apart = λ e. clash (sym e); tails = λ _. (omega arith, (omega arith, omega arith)) })) ∙ whole_on false k 0x80 0xBF s))
    (λ _ t.
    let z : (if within lo hi b then suc (utf8_far_from k 0x80 0xBF s) else 0) ≡ 0 = rw t in
    by_test (λ c. Err 0 ≡ cut (suc k) lo hi b s c) (bare b)
    (λ _. sym (answer_no (eqb b 34) (eqb (suc k) 0) 0 (if within lo hi b then suc (utf8_far_from k 0x80 0xBF s) else 0) (ne_eqb (suc k) 0 (omega arith)) z))
    (λ _. sym (answer_no (is_at s (stop (eqb b 92) s) 34) (within lo hi b && utf8_from k 0x80 0xBF (take (stop (eqb b 92) s) s)) (suc (stop (eqb b 92) s)) (if within lo hi b then suc (utf8_far_from k 0x80 0xBF s) else 0) (ap (λ (x : Bool). x && utf8_from k 0x80 0xBF (take (stop (eqb b 92) s) s)) t) z)))
    refl

-- the walk from the start of a value
pub walk_value : (s : List ℕ) → went_of (value s) (value_far s) ≡ value_walk false 0 0x80 0xBF s
unfolding value only until_quote value_far
walk_value s =
    by_test (λ q. went_of (on_found (if q then found (take (stop false s) s) (stop false s + 1) else failed) (λ a n. if is_utf8 a then found a n else failed)) (least (stop false s) (utf8_far s))
    ≡ answer q (is_utf8 (take (stop false s) s)) (stop false s) (utf8_far s)) (is_at s (stop false s) 34)
    (λ _. by_test (λ u. went_of (if u then found (take (stop false s) s) (stop false s + 1) else failed) (least (stop false s) (utf8_far s)) ≡ (if u then Ok (stop false s + 1) else Err (least (stop false s) (utf8_far s)))) (is_utf8 (take (stop false s) s)) (λ _. refl) (λ _. refl))
    (λ _. refl)
    ∙ sym (walk_whole false 0 0x80 0xBF s (record { apart = λ _. refl; tails = λ l. absurd (omega arith) }))

-- ---- the loop

-- i bytes of the line are passed
pub record Walking (s : List ℕ) (at : ℕ) (paired : Bool) (more lo hi i : ℕ) : Type 0 where
  pub rest : value_at s at ≡ onward_of i (value_walk paired more lo hi (drop i s))

pub walking_start : (s : List ℕ) (at : ℕ) → Walking s at false 0 0x80 0xBF at
unfolding went_at
walking_start s at = record { rest = ap (onward_of at) (walk_value (drop at s)) }

neither : (a b : Bool) → (a || b) ≡ false → (a ≡ false) × (b ≡ false)
neither false b h = (refl, h)
neither true b h = clash h

pub not_within : (lo hi b : ℕ) → (ltb b lo || ltb hi b) ≡ true → within lo hi b ≡ false
not_within lo hi b h =
    by_test (λ t. ltb b lo ≡ t → (t || ltb hi b) ≡ true → within lo hi b ≡ false) (ltb b lo)
    (λ _ t _. below lo hi b (ltb-true b lo t)) (λ _ t g. above lo hi b (ltb-true hi b g)) refl h

pub is_within : (lo hi b : ℕ) → (ltb b lo || ltb hi b) ≡ false → within lo hi b ≡ true
is_within lo hi b h = let (p, q) = neither (ltb b lo) (ltb hi b) h in inside lo hi b (ltb-false b lo p) (ltb-false hi b q)

module _ (s : List ℕ) (at : ℕ) (paired : Bool) (more lo hi i : ℕ) (w : Walking s at paired more lo hi i) where
  -- stuck here, where the rest is
  stuck_here : value_walk paired more lo hi (drop i s) ≡ Err 0 → Err i ≡ value_at s at
  stuck_here e = ap Err (let z : i ≡ i + 0 = omega arith in z) ∙ ap (onward_of i) (sym e) ∙ sym w.rest

  pub value_out : length s ≤ i → Err i ≡ value_at s at
  unfolding value_walk
  value_out h = stuck_here (ap (value_walk paired more lo hi) (ended s i h))

  module _ (h : i < length s) where
    abbrev b : ℕ
    b = get_or s i 0

    here : value_walk paired more lo hi (drop i s) ≡ value_walk paired more lo hi (b ∷ drop (i + 1) s)
    here = ap (value_walk paired more lo hi) (step s i h)

    -- one byte more
    go_on : (p : Bool) (m l g : ℕ) → value_walk paired more lo hi (b ∷ drop (i + 1) s) ≡ onward_of 1 (value_walk p m l g (drop (i + 1) s)) → Walking s at p m l g (i + 1)
    go_on p m l g e = record { rest = w.rest ∙ ap (onward_of i) (here ∙ e) ∙ onward_twice i 1 (value_walk p m l g (drop (i + 1) s)) }

    module _ (z : more ≡ 0) where
      pub value_quote : (not paired && eqb b 34) ≡ true → Ok (i + 1) ≡ value_at s at
      unfolding value_walk
      value_quote t =
          let e : value_walk paired more lo hi (b ∷ drop (i + 1) s) ≡ Ok 1 = rw (z, t) in
          ap (onward_of i) (sym (here ∙ e)) ∙ sym w.rest

      module _ (t : (not paired && eqb b 34) ≡ false) where
        pub value_bracket : (not paired && eqb b 93) ≡ true → Err i ≡ value_at s at
        unfolding value_walk
        value_bracket u = stuck_here (here ∙ rw (z, t, u))

        module _ (u : (not paired && eqb b 93) ≡ false) (l : Lead) (e : l ≡ lead_of b) where
          pub value_no_lead : l.len ≡ 0 → Err i ≡ value_at s at
          unfolding value_walk
          value_no_lead k = stuck_here (here ∙ rw (z, t, u, ← e, k))

          pub value_lead : (l.len ≡ 0 → ⊥) → Walking s at (not paired && eqb b 92) (l.len - 1) l.low l.high (i + 1)
          unfolding value_walk
          value_lead k = go_on (not paired && eqb b 92) (l.len - 1) l.low l.high (rw (z, t, u, ← e, le-leb 1 l.len (omega arith)))

    module _ (z : more ≡ 0 → ⊥) where
      more_is : more ≡ suc (more - 1)
      more_is = omega arith

      pub value_outside : (ltb b lo || ltb hi b) ≡ true → Err i ≡ value_at s at
      unfolding value_walk
      value_outside t = stuck_here (here ∙ ap (λ (m : ℕ). value_walk paired m lo hi (b ∷ drop (i + 1) s)) more_is ∙ rw (not_within lo hi b t))

      pub value_tail : (ltb b lo || ltb hi b) ≡ false → Walking s at false (more - 1) 0x80 0xBF (i + 1)
      unfolding value_walk
      value_tail t = go_on false (more - 1) 0x80 0xBF (ap (λ (m : ℕ). value_walk paired m lo hi (b ∷ drop (i + 1) s)) more_is ∙ rw (is_within lo hi b t))

pub ruleset value_laws = (walking_start, value_out, value_quote, value_bracket, value_no_lead, value_lead, value_outside, value_tail)
