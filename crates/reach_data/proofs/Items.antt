-- Parameters and elements, as code walks.
use Rattle.std.specs.Prelude.{if◌then◌else◌, Result, Ok, Err}
use Prim.Native.Nat.{ℕ, zero, suc, ◌+◌, ◌-◌, ◌^◌, ◌≤◌, ◌<◌}
use mathlib.Core.Path.{◌≡◌, refl, sym, ap, ◌∙◌}
use mathlib.Core.Bool.{Bool, true, false, not}
use mathlib.Core.List.{List, [], ◌∷◌}
use native.Mathlib.Omega.{arith}
use mir.Syntax.{w64}
use mir.Val.{Fits}
use lib.ListN.{length, drop}
use lib.Seq.{drop-drop}
use borrow.Author.Tests.{not-true, not-false}
use Rattle.base.specs.Choose.{is_at}
use Rattle.base.specs.Runs.{run}
use Rattle.base.proofs.Tests.{by_test}
use Rattle.base.proofs.Parts.{at_below}
use Rattle.grammar.specs.Abnf.{sd_name_byte}
use Rattle.grammar.specs.Line.{Param}
use Rattle.grammar.specs.Parse.{on_found, behind, closed, many, item_and, ◌next◌, sd_name, value, param, param_of}
use Rattle.grammar.specs.Parse.Parsed.{failed, found}
use Rattle.grammar.proofs.Readers.{many_end, many_item, many_failed}
use Rattle.viable.specs.Far.{reached, behind_far, closed_far, each_far}
use Rattle.viable.specs.Leaves.{repeat_far, value_far}
use Rattle.viable.specs.Reach.{param_far, params_far}
use Rattle.viable.specs.Walks.{went_of, onward_of, went_at}
use Rattle.viable.proofs.Reaches.{by_parsed}
use Rattle.viable.proofs.Walks.{Passed, got_past, got_stuck, onward_twice, at_drop, at_here, Seq, seq, re_seq, Closed, closing, Behind, leading, into_walk, repeat_none, repeat_long, repeat_past}
use Rattle.reach_data.specs.Pieces.{name_at, name_end_at, value_at, quoted_at, param_at, bracket_at, params_at, plain_at}

-- ---- SD-PARAM

pub name_closed : Closed name_at 61 name_end_at
name_closed = closing sd_name (repeat_far 32 sd_name_byte) 61

pub quoted_behind : Behind 34 value_at quoted_at
quoted_behind = leading value value_far 34

pub param_seq : Seq name_end_at quoted_at param_at
unfolding param param_far
param_seq =
    re_seq (into_walk param_of (closed sd_name 61 next behind 34 value) param_far)
    (seq (closed sd_name 61) (behind 34 value) (closed_far sd_name (repeat_far 32 sd_name_byte)) (behind_far 34 value_far))

-- ---- *(SP SD-PARAM) "]"

abbrev went_closed : List ℕ → Result ℕ ℕ
went_closed s = went_of (closed (many 32 param) 93 s) (closed_far (many 32 param) params_far s)

far_skip : (k : ℕ) (s : List ℕ) → each_far 32 (λ (u : Unit {0}). param) (λ u. param_far) (λ u p. u) (λ u. true) tt k s ≡ each_far 32 (λ (u : Unit {0}). param) (λ u. param_far) (λ u p. u) (λ u. true) tt 0 (drop k s)
unfolding each_far
far_skip zero [] = refl
far_skip (suc k) [] = refl
far_skip zero (x ∷ s) = refl
far_skip (suc k) (x ∷ s) = far_skip k s

far_item : (s : List ℕ) (a : Param) (n : ℕ) → is_at s 0 32 ≡ true → param (drop 1 s) ≡ found a n → params_far s ≡ n + 1 + params_far (drop n (drop 1 s))
unfolding params_far each_far
far_item [] a n h e = absurd (omega (arith, at_below [] 0 31 h))
far_item (x ∷ s) a n h e = rw (h, e) (ap (λ (k : ℕ). n + 1 + k) (far_skip n s))

far_failed : (s : List ℕ) → is_at s 0 32 ≡ true → param (drop 1 s) ≡ failed → params_far s ≡ param_far (drop 1 s) + 1
unfolding params_far each_far
far_failed [] h e = absurd (omega (arith, at_below [] 0 31 h))
far_failed (x ∷ s) h e = rw (h, e)

closed_end : (s : List ℕ) → is_at s 0 32 ≡ false → went_closed s ≡ (if is_at s 0 93 then Ok 1 else Err 0)
unfolding closed closed_far
closed_end s h = rw (many_end 31 param s h) (by_test (λ t. went_of {A = List Param} (if t then found [] 1 else failed) 0 ≡ (if t then Ok 1 else Err 0)) (is_at s 0 93) (λ _. refl) (λ _. refl))

closed_failed : (s : List ℕ) → is_at s 0 32 ≡ true → param (drop 1 s) ≡ failed → went_closed s ≡ Err (param_far (drop 1 s) + 1)
unfolding closed closed_far
closed_failed s h e = rw (many_failed 31 param s h e) (ap Err (far_failed s h e))

closed_item : (s : List ℕ) (a : Param) (n : ℕ) → is_at s 0 32 ≡ true → param (drop 1 s) ≡ found a n → went_closed s ≡ onward_of (n + 1) (went_closed (drop n (drop 1 s)))
unfolding closed closed_far
closed_item s a n h e =
    let r = drop n (drop 1 s) in
    let d : r ≡ drop (1 + n) s = drop-drop n 1 s in
    rw (many_item 31 param s a n h e)
    (by_parsed (λ o. went_of (on_found (item_and a n o) (λ l m. if is_at s m 93 then found l (m + 1) else failed)) (reached (item_and a n o) (params_far s) (λ l m. m))
    ≡ onward_of (n + 1) (went_of (on_found o (λ l m. if is_at r m 93 then found l (m + 1) else failed)) (reached o (params_far r) (λ l m. m)))) (many 32 param r)
    (λ _. ap Err (far_item s a n h e))
    (λ l m _.
    let c : is_at r m 93 ≡ is_at s (n + 1 + m) 93 = ap (λ (t : List ℕ). is_at t m 93) d ∙ at_drop s (1 + n) m 93 ∙ ap (λ (k : ℕ). is_at s k 93) (let z : 1 + n + m ≡ n + 1 + m = omega arith in z) in
    rw c (by_test (λ t. went_of (if t then found (a ∷ l) (n + 1 + m + 1) else failed) (n + 1 + m) ≡ onward_of (n + 1) (went_of (if t then found l (m + 1) else failed) m)) (is_at s (n + 1 + m) 93)
    (λ _. ap Ok (let z : n + 1 + m + 1 ≡ n + 1 + (m + 1) = omega arith in z)) (λ _. refl))))

-- ---- the loop

-- `i` bytes of the line are passed
pub record Looping (s : List ℕ) (at i : ℕ) : Type 0 where
  pub rest : params_at s at ≡ params_at s i

pub params_start : (s : List ℕ) (at : ℕ) → Looping s at at
params_start s at = record { rest = refl }

module _ (s : List ℕ) (at i : ℕ) (l : Looping s at i) where
  module _ (t : Bool) (et : t ≡ is_at s i 32) where
    module _ (h : t ≡ true) (w : Result ℕ ℕ) (ew : w ≡ param_at s (i + 1)) where
      front : is_at (drop i s) 0 32 ≡ true
      front = at_here s i 32 ∙ sym et ∙ h

      part : drop 1 (drop i s) ≡ drop (i + 1) s
      part = drop-drop 1 i s

      pub params_stuck : (k : ℕ) → w ≡ Err k → w ≡ params_at s at
      unfolding went_at
      params_stuck k hw =
          let g = got_stuck param param_far s (i + 1) w ew k hw in
          let c : went_closed (drop i s) ≡ Err (param_far (drop (i + 1) s) + 1)
          = closed_failed (drop i s) front (ap param part ∙ g.is) ∙ ap (λ (u : List ℕ). Err (param_far u + 1)) part in
          hw ∙ ap Err (let z : k ≡ i + (param_far (drop (i + 1) s) + 1) = omega (arith, g.sum) in z) ∙ ap (onward_of i) (sym c) ∙ sym l.rest

      module _ (n : ℕ) (hw : w ≡ Ok n) where
        got : Passed (param (drop (i + 1) s)) (i + 1) n
        got = got_past param param_far s (i + 1) w ew n hw

        pub params_less : length s - n < length s - i
        params_less = let b = at_below s i 31 (sym et ∙ h) in omega (arith, got.sum)

        pub params_next_lem : Looping s at n
        unfolding went_at
        params_next_lem =
            let g = got in
            let m = g.bytes in
            let e : drop m (drop 1 (drop i s)) ≡ drop n s = ap (drop m) part ∙ drop-drop m (i + 1) s ∙ ap (λ (k : ℕ). drop k s) (sym g.sum) in
            let c : went_closed (drop i s) ≡ onward_of (m + 1) (went_closed (drop n s))
            = closed_item (drop i s) g.value m front (ap param part ∙ g.is) ∙ ap (λ (u : List ℕ). onward_of (m + 1) (went_closed u)) e in
            record {
              rest = l.rest ∙ ap (onward_of i) c ∙ onward_twice i (m + 1) (went_closed (drop n s))
                  ∙ ap (λ (k : ℕ). onward_of k (went_closed (drop n s))) (let z : i + (m + 1) ≡ n = omega (arith, g.sum) in z);
            }

    -- what closes the parameters
    pub params_close : t ≡ false → (x : Result ℕ ℕ) → x ≡ bracket_at s i → x ≡ params_at s at
    unfolding went_at
    params_close h x e =
        let c = closed_end (drop i s) (at_here s i 32 ∙ sym et ∙ h) ∙ ap (λ (u : Bool). if u then Ok 1 else Err 0) (at_here s i 93) in
        e ∙ shift (is_at s i 93) ∙ ap (onward_of i) (sym c) ∙ sym l.rest
      where
        shift : (q : Bool) → (if q then Ok (i + 1) else Err i) ≡ onward_of i (if q then Ok 1 else Err 0)
        shift true = refl
        shift false = ap Err (let z : i ≡ i + 0 = omega arith in z)

module _ (s : List ℕ) (at : ℕ) (t : Bool) (et : t ≡ is_at s at 93) where
  pub bracket_no : not t ≡ true → Err at ≡ bracket_at s at
  bracket_no h = rw (← et, not-true t h)

  pub bracket_yes : not t ≡ false → Ok (at + 1) ≡ bracket_at s at
  bracket_yes h = rw (← et, not-false t h)

pub ruleset bracket_laws = (bracket_no, bracket_yes)

pub ruleset params_laws = (params_start, params_stuck, params_less, params_next_lem, params_close)

-- ---- what is after a "["

plain_seq : Seq name_at params_at plain_at
plain_seq = seq sd_name (closed (many 32 param) 93) (repeat_far 32 sd_name_byte) (closed_far (many 32 param) params_far)

module _ (s : List ℕ) (at end : ℕ) (e : end ≡ at + run sd_name_byte (drop at s)) where
  pub element_none : end ≡ at → Err at ≡ plain_at s at
  element_none z = plain_seq.stuck s at (Err at) (repeat_none sd_name_byte s at 32 end e z) at refl

  pub element_less : at ≤ end
  element_less = omega arith

  module _ (some : end ≡ at → ⊥) where
    pub element_long : 32 < end - at → Err (at + 32) ≡ plain_at s at
    element_long h = plain_seq.stuck s at (Err (at + 32)) (repeat_long sd_name_byte s at 32 end e some h) (at + 32) refl

    pub element_long_fits : 32 < end - at → end < 2 ^ 64 → Fits w64 (at + 32)
    element_long_fits h l = record { fits = omega arith }

    pub element_on : end - at ≤ 32 → (x : Result ℕ ℕ) → x ≡ params_at s end → x ≡ plain_at s at
    element_on h x ex = plain_seq.on s at (Ok end) (repeat_past sd_name_byte s at 32 end e some h) end refl x ex

pub ruleset element_laws = (element_none, element_less, element_long, element_long_fits, element_on)
