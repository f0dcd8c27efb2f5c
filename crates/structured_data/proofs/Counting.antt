-- The structured data, counted.
use Rattle.std.specs.Prelude.{if◌then◌else◌, Option, Some, None}
use Prim.Native.Nat.{ℕ, ◌+◌, ◌-◌, ◌^◌, ◌≤◌, ◌<◌}
use mathlib.Core.Path.{◌≡◌, refl, sym, ap, ◌∙◌}
use mathlib.Core.Bool.{Bool, true, false}
use mathlib.Core.List.{List}
use native.Mathlib.Omega.{arith}
use lib.Dec.{eqb}
use lib.ListN.{length, length-append}
use mir.Syntax.{w64}
use mir.Val.{Fits}
use borrow.Author.Tests.{eq-eqb, ne_eqb}
use Rattle.base.proofs.Parts.{at_below}
use Rattle.structured_data.specs.Data.{Rows, end_at, hyphen_at, data_from}
use Rattle.structured_data.specs.Data.Data.{no_data, is_data}
use Rattle.structured_data.specs.Tables.{counts_of}
use Rattle.structured_data.specs.Steps.{open_from, Ends, Dead, Closes, Turns}
use Rattle.structured_data.specs.declared.Rules.{Rules}
use Rattle.structured_data.specs.declared.Open.{Open}
use Rattle.structured_data.specs.declared.Walk.{Walk}
use Rattle.structured_data.specs.declared.Turn.{Turn}
use Rattle.structured_data.specs.declared.Counts.{Counts}
use Rattle.structured_data.proofs.Hyphen.{hyphen_there}
use Rattle.structured_data.proofs.Lists.{left, param_rows, Follows, follows}
use Rattle.structured_data.proofs.Turning.{dead_none, stops_there}

-- counts that are there
abbrev counts : ℕ → ℕ → ℕ → Option Counts
counts e p next = Some (record { elements = e; params = p; next = next })

-- The counts of a list that goes from `at` to `next`
module _ (at e p next : ℕ) where
  pub counts_none : next ≡ at → None ≡ (if eqb next at then None else counts e p next)
  counts_none h = rw (eq-eqb next at h)

  pub counts_some : (next ≡ at → ⊥) → counts e p next ≡ (if eqb next at then None else counts e p next)
  counts_some h = rw (ne_eqb next at h)

pub ruleset counts_laws = (counts_none, counts_some)

-- There is a hyphen that says so
module _ (rules : Rules) (s : List ℕ) (at : ℕ) (d : Bool) (ed : d ≡ hyphen_at rules s at) (hd : d ≡ true) where
  pub data_dash : counts 0 0 (at + 1) ≡ counts_of (data_from rules s at)
  unfolding data_from
  data_dash = rw (← ed, hd)

  pub dash_fits : length s < 2 ^ 64 → Fits w64 (at + 1)
  dash_fits l = record { fits = omega (arith, at_below s at 44 (hyphen_there rules s at (sym ed ∙ hd))) }

-- What `turn_from` requires
pub closes : (s : List ℕ) (i dead : ℕ) (o : Open) → o ≡ open_from s i → (w : Walk) → Ends s o.start w → Dead s i dead → Closes s i o.id w dead
closes s i dead o eo w d a = record { named = ap (λ (o : Open). o.id) eo; ends = rw eo at d; alive = a }

-- Counted so far, up to position `i`: `e` elements and `p` parameters
pub record Counted (rules : Rules) (s : List ℕ) (at e p i : ℕ) : Type 0 where
  pub elements_few : e ≤ i
  pub params_few : p ≤ i
  pub elements_are : length (left rules s 0 at).elements ≡ e + length (left rules s e i).elements
  pub params_are : length (left rules s 0 at).params ≡ p + length (left rules s e i).params
  pub next_is : (left rules s 0 at).next ≡ (left rules s e i).next

pub counted_none : (rules : Rules) (s : List ℕ) (at : ℕ) → Counted rules s at 0 0 at
counted_none rules s at =
    record { elements_few = omega arith; params_few = omega arith; elements_are = omega arith; params_are = omega arith; next_is = refl }

-- the step goes on
record On (rules : Rules) (s : List ℕ) (at e p i : ℕ) (r : Turn) : Type 0 where
  further : i < r.next
  within_s : r.next ≤ length s
  few : r.elements + r.params ≤ r.next - i
  counted : Counted rules s at (e + r.elements) (p + r.params) r.next

counts_if : (b : Bool) (x : Rows)
    → counts_of (if b then no_data else is_data x) ≡ (if b then None else counts (length x.elements) (length x.params) x.next)
counts_if true x = refl
counts_if false x = refl

module _ (rules : Rules) (s : List ℕ) (at e p i : ℕ) (c : Counted rules s at e p i) where
  on : (r : Turn) → (r.next ≡ i → ⊥) → Follows rules s e i r.dead r → On rules s at e p i r
  on r z (Follows.ends q l) = absurd (z (ap (λ (r : Turn). r.next) q))
  on r z (Follows.skips next q h l f) =
      let e₀ : e + 0 ≡ e = omega arith in
      let p₀ : p + 0 ≡ p = omega arith in
      rw q
      (record {
        further = h;
        within_s = l;
        few = omega arith;
        counted = rw (e₀, p₀)
            (record {
              elements_few = omega (arith, c.elements_few);
              params_few = omega (arith, c.params_few);
              elements_are = c.elements_are ∙ ap (λ (x : Rows). e + length x.elements) f;
              params_are = c.params_are ∙ ap (λ (x : Rows). p + length x.params) f;
              next_is = c.next_is ∙ ap (λ (x : Rows). x.next) f;
            });
      })
  on r z (Follows.takes next q h l f) =
      let m : length (left rules s e i).params ≡ length (param_rows s e i) + length (left rules s (e + 1) next).params =
      ap (λ (x : Rows). length x.params) f ∙ length-append (param_rows s e i) (left rules s (e + 1) next).params in
      rw q
      (record {
        further = omega arith;
        within_s = l;
        few = omega arith;
        counted =
            record {
              elements_few = omega (arith, c.elements_few);
              params_few = omega (arith, c.params_few);
              elements_are = omega (arith, c.elements_are, ap (λ (x : Rows). length x.elements) f);
              params_are = omega (arith, c.params_are, m);
              next_is = c.next_is ∙ ap (λ (x : Rows). x.next) f;
            };
      })

  module _ (r : Turn) (t : Turns rules s i r) where
    module _ (z : r.next ≡ i → ⊥) where
      turned : On rules s at e p i r
      turned = on r z (follows rules s e i r.dead r (t.is e))

      pub elements_fit_lem : length s < 2 ^ 64 → Fits w64 (e + r.elements)
      elements_fit_lem l = record { fits = omega (arith, c.elements_few, turned.further, turned.within_s, turned.few) }

      pub params_fit_lem : length s < 2 ^ 64 → Fits w64 (p + r.params)
      params_fit_lem l = record { fits = omega (arith, c.params_few, turned.further, turned.within_s, turned.few) }

      pub count_less : length s - r.next < length s - i
      count_less = omega (arith, turned.further, turned.within_s)

      pub counted_on : Counted rules s at (e + r.elements) (p + r.params) r.next
      counted_on = turned.counted

    -- the list ends
    ended : (r : Turn) → r.next ≡ i → Follows rules s e i r.dead r → left rules s e i ≡ end_at i
    ended r z (Follows.ends q l) = l
    ended r z (Follows.skips next q h l f) = absurd (omega (arith, z, ap (λ (r : Turn). r.next) q))
    ended r z (Follows.takes next q h l f) = absurd (omega (arith, z, ap (λ (r : Turn). r.next) q))

    pub counted_all : (d : Bool) → d ≡ hyphen_at rules s at → d ≡ false → r.next ≡ i
        → (x : Option Counts) → x ≡ (if eqb i at then None else counts e p i)
        → x ≡ counts_of (data_from rules s at)
    unfolding data_from
    counted_all d ed hd z x ex =
        let f = ended r z (follows rules s e i r.dead r (t.is e)) in
        let l : length (left rules s 0 at).elements ≡ e = c.elements_are ∙ ap (λ (x : Rows). e + length x.elements) f ∙ omega arith in
        let k : length (left rules s 0 at).params ≡ p = c.params_are ∙ ap (λ (x : Rows). p + length x.params) f ∙ omega arith in
        let n : (left rules s 0 at).next ≡ i = c.next_is ∙ ap (λ (x : Rows). x.next) f in
        ex ∙ sym (rw (← ed, hd) (counts_if (eqb (left rules s 0 at).next at) (left rules s 0 at) ∙ rw (l, k, n)))

pub ruleset count_laws = (data_dash, dash_fits, dead_none, stops_there, closes, counted_none, elements_fit_lem, params_fit_lem, count_less, counted_on, counted_all)
