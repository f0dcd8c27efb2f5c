-- Values: where one stops, and what it has to be.
use Rattle.std.specs.Prelude.{if◌then◌else◌, Some, None}
use Prim.Native.Nat.{ℕ, suc, ◌+◌, ◌-◌, ◌^◌, ◌≤◌, ◌<◌}
use mathlib.Core.Path.{◌≡◌, refl, sym, ap, ◌∙◌}
use mathlib.Core.Bool.{Bool, true, false, not, ◌&&◌}
use mathlib.Core.List.{List, [], ◌∷◌}
use native.Mathlib.Omega.{arith}
use mir.Syntax.{w64}
use mir.Val.{Fits}
use lib.Dec.{eqb}
use lib.ListN.{length, get_or, take, drop}
use borrow.Author.Tests.{eq-eqb, ne_eqb, not-true, not-false}
use Rattle.base.specs.Choose.{is_at}
use Rattle.base.proofs.Tests.{by_test}
use Rattle.base.proofs.Parts.{step, ended, at_below}
use Rattle.utf8.specs.Lead.{is_utf8}
use Rattle.grammar.specs.Line.{bare}
use Rattle.grammar.specs.Parse.{on_found, only, stop, until_quote, value}
use Rattle.grammar.specs.Parse.Parsed.{failed, found}
use Rattle.grammar.proofs.Bytes.{stop_le}
use Rattle.strict_data.specs.Sizes.{size_of}

-- ---- where a value stops

stop_cons : (paired : Bool) (b : ℕ) (s : List ℕ) → stop paired (b ∷ s) ≡ (if not paired && bare b then 0 else suc (stop (not paired && eqb b 92) s))
unfolding stop
stop_cons true b s = refl
stop_cons false b s = refl

stop_none : (paired : Bool) → stop paired [] ≡ 0
unfolding stop
stop_none paired = refl

-- `i` bytes are passed, and no pair is open
pub record Stopping (s : List ℕ) (i : ℕ) : Type 0 where
  pub passed : i ≤ length s
  pub whole : stop false s ≡ i + stop false (drop i s)

pub stop_start : (s : List ℕ) → Stopping s 0
stop_start s = record { passed = omega arith; whole = omega arith }

module _ (s : List ℕ) (i : ℕ) (w : Stopping s i) where
  pub stop_out : length s ≤ i → i ≡ stop false s
  stop_out h = let q : stop false (drop i s) ≡ 0 = ap (stop false) (ended s i h) ∙ stop_none false in omega (arith, w.whole)

  module _ (h : i < length s) where
    pub stop_here : bare (get_or s i 0) ≡ true → i ≡ stop false s
    stop_here t = let q : stop false (drop i s) ≡ 0 = rw (step s i h, stop_cons, t) in omega (arith, w.whole)

    module _ (t : bare (get_or s i 0) ≡ false) where
      one_on : (p : Bool) → eqb (get_or s i 0) 92 ≡ p → stop false (drop i s) ≡ suc (stop p (drop (i + 1) s))
      one_on p e = rw (step s i h, stop_cons, t, e)

      pub stop_on : (get_or s i 0 ≡ 92 → ⊥) → Stopping s (i + 1)
      stop_on e = record { passed = omega arith; whole = omega (arith, w.whole, one_on false (ne_eqb _ _ e)) }

      module _ (e : get_or s i 0 ≡ 92) where
        -- a backslash at the end begins no pair
        pub stop_last : length s - i < 2 → length s ≡ stop false s
        stop_last l =
            let q : stop true (drop (i + 1) s) ≡ 0 = ap (stop true) (ended s (i + 1) (omega arith)) ∙ stop_none true in
            omega (arith, w.whole, one_on true (eq-eqb _ _ e))

        pub stop_pair : 2 ≤ length s - i → Stopping s (i + 2)
        stop_pair l =
            let k : i + 1 + 1 ≡ i + 2 = omega arith in
            let q : stop true (drop (i + 1) s) ≡ suc (stop false (drop (i + 2) s)) = rw (step s (i + 1) (omega arith), stop_cons, k) in
            record { passed = omega arith; whole = omega (arith, w.whole, one_on true (eq-eqb _ _ e)) }

pub ruleset stop_laws = (stop_start, stop_out, stop_here, stop_on, stop_last, stop_pair)

-- ---- a value

abbrev value_text : List ℕ → List ℕ
value_text s = take (stop false s) s

not_utf8 : (s : List ℕ) → false ≡ is_utf8 (value_text s) → None ≡ size_of (value s)
unfolding value only until_quote
not_utf8 s e = by_test (λ t. None ≡ size_of (on_found (if t then found (value_text s) (stop false s + 1) else failed) (λ a n. if is_utf8 a then found a n else failed))) (is_at s (stop false s) 34) (λ q. rw (← e)) (λ q. refl)

not_closed : (s : List ℕ) (i : ℕ) → i ≡ stop false s → is_at s i 34 ≡ false → None ≡ size_of (value s)
unfolding value only until_quote
not_closed s i e q = rw (ap (λ (k : ℕ). is_at s k 34) (sym e) ∙ q)

closed_here : (s : List ℕ) (i : ℕ) → i ≡ stop false s → is_at s i 34 ≡ true → true ≡ is_utf8 (value_text s) → Some (i + 1) ≡ size_of (value s)
unfolding value only until_quote
closed_here s i e q u = rw (ap (λ (k : ℕ). is_at s k 34) (sym e) ∙ q, ← u, e)

module _ (s : List ℕ) (n : ℕ) (e : n ≡ stop false s) where
  pub value_inside : n ≤ length s
  value_inside = omega (arith, stop_le false s)

  module _ (t : Bool) (et : t ≡ is_at s n 34) where
    pub value_open : not t ≡ true → None ≡ size_of (value s)
    value_open h = not_closed s n e (sym et ∙ not-true t h)

    module _ (h : not t ≡ false) where
      value_room : n < length s
      value_room = at_below s n 33 (sym et ∙ not-false t h)

      pub value_fits : length s < 2 ^ 64 → Fits w64 (n + 1)
      value_fits g = record { fits = omega (arith, value_room) }

      module _ (u : Bool) (eu : u ≡ is_utf8 (take (n - 0) s)) where
        text : is_utf8 (take (n - 0) s) ≡ is_utf8 (value_text s)
        text = let z : n - 0 ≡ stop false s = omega arith in ap (λ (k : ℕ). is_utf8 (take k s)) z

        pub value_other : not u ≡ true → None ≡ size_of (value s)
        value_other q = not_utf8 s (sym (not-true u q) ∙ eu ∙ text)

        pub value_closed : not u ≡ false → Some (n + 1) ≡ size_of (value s)
        value_closed q = closed_here s n e (sym et ∙ not-false t h) (sym (not-false u q) ∙ eu ∙ text)

pub ruleset value_laws = (value_inside, value_open, value_fits, value_other)
