-- The item at a position: what follows an element that fails, and one that is there.
use Rattle.std.specs.Prelude.{if◌then◌else◌}
use Prim.Native.Nat.{ℕ, ◌+◌, ◌^◌, ◌≤◌, ◌<◌}
use mathlib.Core.Path.{◌≡◌, refl, sym, ap, ◌∙◌}
use mathlib.Core.Bool.{Bool, true, false, not, ◌&&◌}
use mathlib.Core.List.{List}
use native.Mathlib.Omega.{arith}
use lib.Dec.{leb, eqb}
use lib.ListN.{length, drop, length-drop}
use mir.Syntax.{w64}
use mir.Val.{Fits}
use borrow.Author.Tests.{not-true, not-false, le-leb, eqb-true, eqb-false}
use Rattle.base.specs.Choose.{is_at}
use Rattle.base.specs.Runs.{run}
use Rattle.base.proofs.Tests.{clash}
use Rattle.base.proofs.Parts.{at_below}
use Rattle.base.proofs.Runs.{run_le}
use Rattle.parsers.specs.Steps.{is_inside}
use Rattle.structured_data.specs.Element.{params_from}
use Rattle.structured_data.specs.Element.Element.{no_element, is_element}
use Rattle.structured_data.specs.Data.{item_of, item_from}
use Rattle.structured_data.specs.Data.Item.{taken, skipped, ended}
use Rattle.structured_data.specs.Steps.{walk_from, open_from, ends_list, turn_of}
use Rattle.structured_data.specs.declared.Rules.{Rules}
use Rattle.structured_data.specs.declared.Rules.TheVariants.{Rfc3164Rules, Rfc5424Rules}
use Rattle.structured_data.specs.declared.Open.{Open}
use Rattle.structured_data.specs.declared.Walk.{Walk}
use Rattle.structured_data.proofs.Walks.{params_any}
use Rattle.structured_data.proofs.Params.{at_part}
use Rattle.structured_data.proofs.Elements.{closed_fits, element_of, element_is}

-- What follows an element that fails: by the rules of RFC 5424 lines, by positions of the line
pub failed_5424 : (rules : Rules) (s : List ℕ) (at : ℕ) → ends_list rules ≡ false
    → item_of rules at (drop at s) no_element
    ≡ (if is_at s at 91 && is_at s (at + run is_inside (drop at s)) 93 then skipped (at + run is_inside (drop at s) + 1) else ended)
failed_5424 Rfc3164Rules s at h = clash h
failed_5424 Rfc5424Rules s at h =
    let z : at + 0 ≡ at = omega arith in
    rw (at_part s at 0 91, z, at_part s at (run is_inside (drop at s)) 93)

failed_3164 : (rules : Rules) (at : ℕ) (t : List ℕ) → ends_list rules ≡ true → item_of rules at t no_element ≡ ended
failed_3164 Rfc3164Rules at t h = refl
failed_3164 Rfc5424Rules at t h = clash (sym h)

module _ (rules : Rules) (s : List ℕ) (at dead : ℕ) (t : Bool) (et : t ≡ ends_list rules) where
  pub skip_none : t ≡ true → record { elements = 0; params = 0; next = at; dead = dead } ≡ turn_of at dead (item_of rules at (drop at s) no_element)
  skip_none h = rw (failed_3164 rules at (drop at s) (sym et ∙ h))

  module _ (ht : t ≡ false) (b : Bool) (eb : b ≡ is_at s at 91) where
    pub skip_unopened : not b ≡ true → record { elements = 0; params = 0; next = at; dead = dead } ≡ turn_of at dead (item_of rules at (drop at s) no_element)
    skip_unopened h = rw (failed_5424 rules s at (sym et ∙ ht), ← eb, not-true b h)

    module _ (hb : not b ≡ false) where
      pub open_within : at ≤ length s
      open_within = omega (arith, at_below s at 90 (sym eb ∙ not-false b hb))

      module _ (u : List ℕ) (eu : u ≡ drop at s) (n : ℕ) (en : n ≡ run is_inside u) where
        inside : n ≡ run is_inside (drop at s)
        inside = en ∙ ap (run is_inside) eu

        pub inside_fits : length s < 2 ^ 64 → Fits w64 (at + n)
        inside_fits l = record { fits = omega (arith, inside, open_within, run_le is_inside (drop at s), length-drop at s) }

        module _ (d : Bool) (ed : d ≡ is_at s (at + n) 93) where
          pub skip_unclosed : not d ≡ true → record { elements = 0; params = 0; next = at; dead = dead } ≡ turn_of at dead (item_of rules at (drop at s) no_element)
          skip_unclosed h = rw (failed_5424 rules s at (sym et ∙ ht), ← eb, not-false b hb, ← inside, ← ed, not-true d h)

          pub skip_past : not d ≡ false → record { elements = 0; params = 0; next = at + n + 1; dead = dead } ≡ turn_of at dead (item_of rules at (drop at s) no_element)
          skip_past h = rw (failed_5424 rules s at (sym et ∙ ht), ← eb, not-false b hb, ← inside, ← ed, not-false d h)

pub ruleset skip_laws = (skip_none, skip_unopened, open_within, inside_fits, skip_unclosed, closed_fits, skip_past)

-- What follows an element that is there, with `count` parameters
pub taken_is : (rules : Rules) (at count : ℕ) (t row : List ℕ) (ps : List (List ℕ)) (next : ℕ) → length ps ≡ count → (ends_list rules && eqb count 0) ≡ false
    → item_of rules at t (is_element row ps next) ≡ taken row ps next
taken_is Rfc5424Rules at count t row ps next e h = refl
taken_is Rfc3164Rules at count t row ps next e h = rw (le-leb 1 (length ps) (let z : count ≡ 0 → ⊥ = eqb-false count 0 h in omega arith))

pub ended_is : (rules : Rules) (at count : ℕ) (t row : List ℕ) (ps : List (List ℕ)) (next : ℕ) → length ps ≡ count → (ends_list rules && eqb count 0) ≡ true
    → item_of rules at t (is_element row ps next) ≡ ended
ended_is Rfc5424Rules at count t row ps next e h = clash (sym h)
ended_is Rfc3164Rules at count t row ps next e h = rw (e, eqb-true count 0 h)

-- The walk from position `start`, for element `e`
pub walk_is : (e : ℕ) (s : List ℕ) (start : ℕ) (w : Walk) → w ≡ walk_from s start
    → (length (params_from e start (drop start s)).rows ≡ w.count) × ((params_from e start (drop start s)).next ≡ w.next)
walk_is e s start w q =
    let p = params_any e start (drop start s) ∙ sym q in
    (ap (λ (w : Walk). w.count) p, ap (λ (w : Walk). w.next) p)

pub and_false : (b : Bool) → (b && false) ≡ false
and_false true = refl
and_false false = refl

-- an element that does not close fails
pub unclosed : (e : ℕ) (s : List ℕ) (at : ℕ) (o : Open) → is_at s (walk_from s o.start).next 93 ≡ false → element_of e s at o ≡ no_element
unclosed e s at o h = rw ((walk_is e s o.start _ refl).1, h, and_false (leb 1 o.id))

pub item_is : (rules : Rules) (s : List ℕ) (at e : ℕ) → item_from rules e at (drop at s) ≡ item_of rules at (drop at s) (element_of e s at (open_from s at))
unfolding item_from
item_is rules s at e = ap (item_of rules at (drop at s)) (element_is e s at)
