-- The message, and what stands where one could.
use Rattle.std.specs.Prelude.{if◌then◌else◌, Result, Ok, Err}
use Prim.Native.Nat.{ℕ, zero, suc, ◌+◌, ◌-◌, ◌^◌, ◌≤◌, ◌<◌}
use mathlib.Core.Path.{◌≡◌, refl, sym, ap, ap₂, ◌∙◌}
use mathlib.Core.Bool.{Bool, true, false, not, ◌&&◌, ◌||◌}
use mathlib.Core.List.{List, [], ◌∷◌}
use mathlib.Core.Option.{some}
use native.Mathlib.Omega.{arith}
use mir.Syntax.{w64}
use mir.Val.{Fits}
use lib.ListN.{length, get_or, drop, length-drop}
use lib.Seq.{drop-drop}
use lib.Dec.{leb, ltb, eqb}
use borrow.Author.Tests.{le-leb, ne_eqb, eq-eqb, not-true, not-false}
use Rattle.base.specs.Choose.{within, is_at}
use Rattle.base.proofs.Tests.{both, by_test}
use Rattle.base.proofs.Parts.{step, ended, at_below}
use Rattle.utf8.specs.Lead.{lead_of, utf8_from, is_utf8}
use Rattle.utf8.specs.declared.Lead.{Lead}
use Rattle.utf8.proofs.Leads.{lead_1}
use Rattle.grammar.specs.Parse.{only, all_left, at_end, is_message, message}
use Rattle.grammar.specs.Parse.Parsed.{failed, found}
use Rattle.viable.specs.Far.{none_far}
use Rattle.viable.specs.Leaves.{utf8_far_from, utf8_far, message_far}
use Rattle.viable.specs.Reach.{end_far}
use Rattle.viable.specs.Walks.{went_of, onward_of, went_at}
use Rattle.viable.proofs.Walks.{onward_twice, choose_yes, choose_no, into_walk}
use Rattle.reach_data.specs.Pieces.{text_at, message_at, is_mark}
use Rattle.reach_data.specs.Values.{utf8_walk, utf8_at}
use Rattle.reach_data.proofs.Values.{not_within, is_within}

-- ---- UTF-8 to the end

abbrev whole : Bool → ℕ → ℕ → Result ℕ ℕ
whole t n k = if t then Ok n else Err k

whole_on : (t : Bool) (n k : ℕ) → onward_of 1 (whole t n k) ≡ whole t (suc n) (suc k)
whole_on true n k = ap Ok (let z : 1 + n ≡ suc n = omega arith in z)
whole_on false n k = ap Err (let z : 1 + k ≡ suc k = omega arith in z)

walk_utf8 : (more lo hi : ℕ) (y : List ℕ) → utf8_walk more lo hi y ≡ whole (utf8_from more lo hi y) (length y) (utf8_far_from more lo hi y)
unfolding utf8_walk utf8_from utf8_far_from
walk_utf8 more lo hi [] = refl
walk_utf8 zero lo hi (b ∷ y) =
    by_test (λ t. (if t then onward_of 1 (utf8_walk ((lead_of b).len - 1) (lead_of b).low (lead_of b).high y) else Err 0)
    ≡ whole (t && utf8_from ((lead_of b).len - 1) (lead_of b).low (lead_of b).high y) (suc (length y)) (if t then suc (utf8_far_from ((lead_of b).len - 1) (lead_of b).low (lead_of b).high y) else 0)) (leb 1 (lead_of b).len)
    (λ _. ap (onward_of 1) (walk_utf8 ((lead_of b).len - 1) (lead_of b).low (lead_of b).high y) ∙ whole_on (utf8_from ((lead_of b).len - 1) (lead_of b).low (lead_of b).high y) (length y) (utf8_far_from ((lead_of b).len - 1) (lead_of b).low (lead_of b).high y))
    (λ _. refl)
walk_utf8 (suc k) lo hi (b ∷ y) =
    by_test (λ t. (if t then onward_of 1 (utf8_walk k 0x80 0xBF y) else Err 0) ≡ whole (t && utf8_from k 0x80 0xBF y) (suc (length y)) (if t then suc (utf8_far_from k 0x80 0xBF y) else 0)) (within lo hi b)
    (λ _. ap (onward_of 1) (walk_utf8 k 0x80 0xBF y) ∙ whole_on (utf8_from k 0x80 0xBF y) (length y) (utf8_far_from k 0x80 0xBF y))
    (λ _. refl)

-- between characters no range is asked
any_range : (lo hi lo' hi' : ℕ) (y : List ℕ) → utf8_walk 0 lo hi y ≡ utf8_walk 0 lo' hi' y
unfolding utf8_walk
any_range lo hi lo' hi' [] = refl
any_range lo hi lo' hi' (b ∷ y) = refl

-- ---- the loop

pub record Reading (s : List ℕ) (at more lo hi i : ℕ) : Type 0 where
  pub rest : utf8_at s at ≡ onward_of i (utf8_walk more lo hi (drop i s))

pub reading_start : (s : List ℕ) (at : ℕ) → Reading s at 0 0x80 0xBF at
reading_start s at = record { rest = refl }

module _ (s : List ℕ) (at more lo hi i : ℕ) (w : Reading s at more lo hi i) where
  stuck_here : utf8_walk more lo hi (drop i s) ≡ Err 0 → Err i ≡ utf8_at s at
  stuck_here e = ap Err (let z : i ≡ i + 0 = omega arith in z) ∙ ap (onward_of i) (sym e) ∙ sym w.rest

  module _ (h : length s ≤ i) where
    pub reading_end : more ≡ 0 → Ok i ≡ utf8_at s at
    unfolding utf8_walk
    reading_end z =
        let e : utf8_walk more lo hi (drop i s) ≡ Ok 0 = ap (utf8_walk more lo hi) (ended s i h) ∙ rw (eq-eqb more 0 z) in
        ap Ok (let z : i ≡ i + 0 = omega arith in z) ∙ ap (onward_of i) (sym e) ∙ sym w.rest

    pub reading_open : (more ≡ 0 → ⊥) → Err i ≡ utf8_at s at
    unfolding utf8_walk
    reading_open z = stuck_here (ap (utf8_walk more lo hi) (ended s i h) ∙ rw (ne_eqb more 0 z))

  module _ (h : i < length s) where
    abbrev b : ℕ
    b = get_or s i 0

    here : utf8_walk more lo hi (drop i s) ≡ utf8_walk more lo hi (b ∷ drop (i + 1) s)
    here = ap (utf8_walk more lo hi) (step s i h)

    go_on : (m l g : ℕ) → utf8_walk more lo hi (b ∷ drop (i + 1) s) ≡ onward_of 1 (utf8_walk m l g (drop (i + 1) s)) → Reading s at m l g (i + 1)
    go_on m l g e = record { rest = w.rest ∙ ap (onward_of i) (here ∙ e) ∙ onward_twice i 1 (utf8_walk m l g (drop (i + 1) s)) }

    pub reading_ascii : more ≡ 0 → b < 0x80 → Reading s at more lo hi (i + 1)
    unfolding utf8_walk
    reading_ascii z l = go_on more lo hi (rw (z, lead_1 b (omega arith)) (ap (onward_of 1) (any_range 0 0 lo hi (drop (i + 1) s))))

    module _ (z : more ≡ 0) (l : Lead) (e : l ≡ lead_of b) where
      pub reading_no_lead : l.len ≡ 0 → Err i ≡ utf8_at s at
      unfolding utf8_walk
      reading_no_lead k = stuck_here (here ∙ rw (z, ← e, k))

      pub reading_lead : (l.len ≡ 0 → ⊥) → Reading s at (l.len - 1) l.low l.high (i + 1)
      unfolding utf8_walk
      reading_lead k = go_on (l.len - 1) l.low l.high (rw (z, ← e, le-leb 1 l.len (omega arith)))

    module _ (z : more ≡ 0 → ⊥) where
      more_is : more ≡ suc (more - 1)
      more_is = omega arith

      pub reading_outside : (ltb b lo || ltb hi b) ≡ true → Err i ≡ utf8_at s at
      unfolding utf8_walk
      reading_outside t = stuck_here (here ∙ ap (λ (m : ℕ). utf8_walk m lo hi (b ∷ drop (i + 1) s)) more_is ∙ rw (not_within lo hi b t))

      pub reading_tail : (ltb b lo || ltb hi b) ≡ false → Reading s at (more - 1) 0x80 0xBF (i + 1)
      unfolding utf8_walk
      reading_tail t = go_on (more - 1) 0x80 0xBF (ap (λ (m : ℕ). utf8_walk m lo hi (b ∷ drop (i + 1) s)) more_is ∙ rw (is_within lo hi b t))

pub ruleset reading_laws = (reading_start, reading_end, reading_open, reading_ascii, reading_no_lead, reading_lead, reading_outside, reading_tail)

-- ---- MSG

pub is_mark_lem : (m : List ℕ) (a b c : Bool) → a ≡ is_at m 0 0xEF → b ≡ is_at m 1 0xBB → c ≡ is_at m 2 0xBF → (a && b && c) ≡ is_mark m
is_mark_lem m a b c ea eb ec = ap₂ ◌&&◌ (ap₂ ◌&&◌ ea eb) ec

module _ (s : List ℕ) (at : ℕ) (r : List ℕ) (er : r ≡ drop at s) (m : Bool) (em : m ≡ is_mark r) where
  marked : is_mark (drop at s) ≡ m
  marked = ap is_mark (sym er) ∙ sym em

  pub text_any : m ≡ false → at ≤ length s → Ok (length s) ≡ text_at s at
  unfolding went_at only all_left
  text_any h l =
      let q = marked ∙ h in
      rw q (ap Ok (let z : length s ≡ at + length (drop at s) = omega (arith, length-drop at s) in z))

  in_line : m ≡ true → at + 3 ≤ length s
  in_line h =
      let (p, q) = both (is_at (drop at s) 0 0xEF && is_at (drop at s) 1 0xBB) (is_at (drop at s) 2 0xBF) (marked ∙ h) in
      let l = at_below (drop at s) 2 0xBE q in
      omega (arith, length-drop at s)

  pub text_3_fits : m ≡ true → length s < 2 ^ 64 → Fits w64 (at + 3)
  text_3_fits h k = let l = in_line h in record { fits = omega arith }

  pub text_utf8 : m ≡ true → (x : Result ℕ ℕ) → x ≡ utf8_at s (at + 3) → x ≡ text_at s at
  unfolding went_at only all_left message_far
  text_utf8 h x e =
      let q = marked ∙ h in
      let l = in_line h in
      let y = drop 3 (drop at s) in
      let d : drop (at + 3) s ≡ y = sym (drop-drop 3 at s) in
      let n : length (drop at s) ≡ 3 + length y = omega (arith, length-drop at s, length-drop 3 (drop at s)) in
      e ∙ ap (λ (z : List ℕ). onward_of (at + 3) (utf8_walk 0 0x80 0xBF z)) d ∙ ap (onward_of (at + 3)) (walk_utf8 0 0x80 0xBF y)
      ∙ rw q (by_test (λ t. onward_of (at + 3) (whole t (length y) (utf8_far y)) ≡ onward_of at (went_of (if t then found (drop at s) (length (drop at s)) else failed) (3 + utf8_far y))) (is_utf8 y)
      (λ _. ap Ok (let z : at + 3 + length y ≡ at + length (drop at s) = omega arith in z))
      (λ _. ap Err (let z : at + 3 + utf8_far y ≡ at + (3 + utf8_far y) = omega arith in z)))

pub ruleset text_laws = (text_any, text_3_fits, text_utf8)

-- ---- [SP MSG]

module _ (s : List ℕ) (at : ℕ) (t : Bool) (et : t ≡ is_at s at 32) where
  pub message_text_lem : t ≡ true → (x : Result ℕ ℕ) → x ≡ text_at s (at + 1) → x ≡ message_at s at
  unfolding message end_far
  message_text_lem h x e = choose_yes _ _ _ _ 32 s at t et h x (e ∙ sym (into_walk some (only is_message all_left) message_far s (at + 1)))

  pub message_in : t ≡ true → at + 1 ≤ length s
  message_in h = let l = at_below s at 31 (sym et ∙ h) in omega arith

  module _ (h : t ≡ false) where
    ends_here : (x : Result ℕ ℕ) → x ≡ went_at at_end none_far s at → x ≡ message_at s at
    unfolding message end_far
    ends_here x e = choose_no _ _ _ _ 32 s at t et h x e

    pub message_other : at < length s → Err at ≡ message_at s at
    unfolding went_at at_end
    message_other l =
        let z : eqb (length (drop at s)) 0 ≡ false = ne_eqb (length (drop at s)) 0 (λ e. omega (arith, length-drop at s)) in
        ends_here (Err at) (rw z (ap Err (let y : at ≡ at + 0 = omega arith in y)))

    pub message_none : length s ≤ at → Ok at ≡ message_at s at
    unfolding went_at at_end
    message_none l =
        let z : eqb (length (drop at s)) 0 ≡ true = eq-eqb (length (drop at s)) 0 (omega (arith, length-drop at s)) in
        ends_here (Ok at) (rw z (ap Ok (let y : at ≡ at + 0 = omega arith in y)))

pub ruleset message_laws = (message_text_lem, message_in, message_other, message_none)
