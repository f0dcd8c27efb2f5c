-- The split of a field, by the tests that decide it, and that its parts fill it.
use Rattle.std.specs.Prelude.{if◌then◌else◌, Option, Some, None}
use Prim.Native.Nat.{ℕ, ◌+◌, ◌-◌, ◌^◌, ◌≤◌, ◌<◌}
use mathlib.Core.Path.{◌≡◌, refl, sym, ap, ◌∙◌}
use mathlib.Core.List.{List}
use mathlib.Core.Bool.{Bool, true, false, not, ◌&&◌}
use native.Mathlib.Omega.{arith}
use lib.Dec.{leb, eqb}
use lib.ListN.{length, take, drop, length-take, length-drop}
use borrow.Author.Tests.{not-true, not-false, le-leb, eqb-true}
use mir.Syntax.{w64}
use mir.Val.{Fits}
use Rattle.base.specs.Choose.{is_at}
use Rattle.base.specs.Runs.{run}
use Rattle.base.proofs.Pairs.{some_first, some_second}
use Rattle.base.proofs.Tests.{clash}
use Rattle.base.proofs.Parts.{at_below}
use Rattle.base.proofs.Runs.{run_le}
use Rattle.record.specs.declared.Place.{Place}
use Rattle.parsers.specs.Steps.{is_inside}
use Rattle.rfc3164.specs.Names.{is_app, split_at, split_of}
use Rattle.rfc3164.specs.Steps.{closes_at}

module _ (s : List ℕ) (end : ℕ) (t : Bool) (e : t ≡ is_at s end 93) where
  pub unclosed : not t ≡ true → false ≡ closes_at s end
  unclosed h = rw (← e, not-true t h)

  module _ (h : not t ≡ false) where
    pub closed : eqb (end + 1) (length s) ≡ closes_at s end
    closed = rw (← e, not-false t h)

    pub closed_fits : length s < 2 ^ 64 → Fits w64 (end + 1)
    closed_fits l = record { fits = omega (arith, at_below s end 92 (sym e ∙ not-false t h)) }

pub ruleset closes_laws = (unclosed, closed, closed_fits)

-- a split that is there
abbrev parts : ℕ → ℕ → Option (ℕ × ℕ)
parts a p = Some (a, p)

-- the split by its last test
split_by : (s : List ℕ) (a p : ℕ) → a ≡ run is_app s → p ≡ run is_inside (drop (a + 1) s)
    → split_at s ≡ (if is_at s a 91 && leb 1 p && closes_at s (a + 1 + p) then parts a p else None)
unfolding split_at
split_by s a p ea ep =
    let q : a + p + 2 ≡ a + 1 + p + 1 = omega arith in
    rw (← ea, ← ep, q) (go (is_at s a 91 && leb 1 p) (is_at s (a + 1 + p) 93) (eqb (a + 1 + p + 1) (length s)))
  where
    go : (b c d : Bool) → (if b && c && d then parts a p else None) ≡ (if b && (c && d) then parts a p else None)
    go true c d = refl
    go false c d = refl

module _ (s : List ℕ) (a : ℕ) (ea : a ≡ run is_app s) (t : Bool) (et : t ≡ is_at s a 91) where
  pub split_unopened : not t ≡ true → None ≡ split_at s
  unfolding split_at
  split_unopened h = rw (← ea, ← et, not-true t h)

  module _ (ht : not t ≡ false) where
    pub open_within : a + 1 ≤ length s
    open_within = omega (arith, at_below s a 90 (sym et ∙ not-false t ht))

    pub open_fits : length s < 2 ^ 64 → Fits w64 (a + 1)
    open_fits l = record { fits = omega (arith, open_within) }

    module _ (u : List ℕ) (eu : u ≡ drop (a + 1) s) (p : ℕ) (ep : p ≡ run is_inside u) where
      pid_is : p ≡ run is_inside (drop (a + 1) s)
      pid_is = ep ∙ ap (run is_inside) eu

      pub split_no_pid : p ≡ 0 → None ≡ split_at s
      split_no_pid z = sym (split_by s a p ea pid_is ∙ rw (← et, not-false t ht, z))

      pub pid_fits : length s < 2 ^ 64 → Fits w64 (a + 1 + p)
      pid_fits l = record { fits = omega (arith, open_within, pid_is, run_le is_inside (drop (a + 1) s), length-drop (a + 1) s) }

      module _ (z : p ≡ 0 → ⊥) (d : Bool) (ed : d ≡ closes_at s (a + 1 + p)) where
        split_is : split_at s ≡ (if d then parts a p else None)
        split_is = split_by s a p ea pid_is ∙ rw (← et, not-false t ht, le-leb 1 p (omega arith), ed)

        pub split_unclosed : not d ≡ true → None ≡ split_at s
        split_unclosed h = sym (split_is ∙ rw (not-true d h))

        pub split_parts : not d ≡ false → Some (a, p) ≡ split_at s
        split_parts h = sym (split_is ∙ rw (not-false d h))

pub ruleset split_laws = (split_unopened, open_within, open_fits, split_no_pid, pid_fits, split_unclosed, split_parts)

-- the place of a field, as a part of the line
pub split_place : (s : List ℕ) (p : Place) (r : Option (ℕ × ℕ)) → r ≡ split_at (take (p.start + p.len - p.start) (drop p.start s)) → r ≡ split_of s p
unfolding split_of
split_place s p r e =
    let q : p.start + p.len - p.start ≡ p.len = omega arith in
    e ∙ rw q

-- app, `[`, pid and `]` are the whole of it
parts_fill : (t : List ℕ) (a p : ℕ) → split_at t ≡ Some (a, p) → a + p + 2 ≡ length t
unfolding split_at
parts_fill t a p e = go (is_at t a' 91 && leb 1 p' && is_at t (a' + 1 + p') 93) (eqb (a' + p' + 2) (length t)) refl e
  where
    a' : ℕ
    a' = run is_app t

    p' : ℕ
    p' = run is_inside (drop (a' + 1) t)

    go : (b d : Bool) → eqb (a' + p' + 2) (length t) ≡ d → (if b && d then parts a' p' else None) ≡ parts a p → a + p + 2 ≡ length t
    go true true h e =
        let q : a' ≡ a = some_first e in
        let r : p' ≡ p = some_second e in
        omega (arith, eqb-true (a' + p' + 2) (length t) h)
    go true false h e = clash (cc)
    go false d h e = clash (cc)

-- so they lie where the field lies
module _ (s : List ℕ) (f : Place) (g : Option (ℕ × ℕ)) (e : g ≡ split_of s f) (a p : ℕ) (z : g ≡ Some (a, p)) (w : f.start + f.len ≤ length s) where
  pub parts_within : f.start + a + 1 + p < length s
  unfolding split_of
  parts_within = omega (arith, parts_fill (take f.len (drop f.start s)) a p (sym e ∙ z), length-take f.len (drop f.start s), length-drop f.start s)

  pub app_fits : length s < 2 ^ 64 → Fits w64 (f.start + a)
  app_fits l = record { fits = omega (arith, parts_within) }

  pub pid_start_fits : length s < 2 ^ 64 → Fits w64 (f.start + a + 1)
  pid_start_fits l = record { fits = omega (arith, parts_within) }

pub ruleset place_laws = (app_fits, pid_start_fits)
