-- The walk of a text among those before it.
use Rattle.std.specs.Prelude.{if◌then◌else◌}
use Prim.Native.Nat.{ℕ, ◌+◌, ◌*◌, ◌-◌, ◌<◌}
use mathlib.Core.Path.{◌≡◌, refl, sym, ap, ◌∙◌, subst}
use mathlib.Core.Bool.{true, false}
use mathlib.Core.List.{List}
use Rattle.std.proofs.Common.{Some, None}
use native.Mathlib.Omega.{arith}
use lib.ListN.{length, get_or}
use Rattle.base.specs.Texts.{same_text}
use Rattle.base.proofs.Tests.{by_test, clash}
use Rattle.base.proofs.Texts.{same_is, same_self}
use Rattle.pairs.specs.Tree.{slot_of, turn_of, Leads, Turning, Seeking, Grows, Meets, Fresh}
use Rattle.pairs.specs.Tree.Leads.{here, on}
use Rattle.pairs.proofs.Keys.{side_few}

-- The walk of text i has come to a slot: from there it leads to each text that is the same and to which it is led, and what is found from there is found from the beginning.
pub record Walk (key : ℕ → List ℕ) (depths kids : List ℕ) (i slot : ℕ) : Type 0 where
  pub under : slot < 1 + 3 * i
  pub ahead : (m : ℕ) → Leads key depths kids (key i) 0 m → key m ≡ key i → Leads key depths kids (key i) slot m
  pub back : (depths' kids' : List ℕ) → Grows i depths kids depths' kids' → Leads key depths' kids' (key i) slot i → Leads key depths' kids' (key i) 0 i

-- ---- a turn

module _ (own other : List ℕ) (j d : ℕ) where
  turn_same : None ≡ turn_of own other j d → same_text own other ≡ true
  turn_same h = by_test (λ b. None ≡ (if b then None else Some (slot_of own other j d)) → b ≡ true) (same_text own other) (λ e q. refl) (λ e q. cc) h

  turn_on : (slot : ℕ) → Some slot ≡ turn_of own other j d → (same_text own other ≡ false) × (slot ≡ slot_of own other j d)
  turn_on slot h =
      by_test (λ b. Some slot ≡ (if b then None else Some (slot_of own other j d)) → (b ≡ false) × (slot ≡ slot_of own other j d)) (same_text own other) (λ e q. absurd (cc)) (λ e q. (refl, cc)) h

-- ---- the walk

module _ (n : ℕ) (key : ℕ → List ℕ) (depths kids : List ℕ) (i : ℕ) (a : Seeking n depths kids i) where
  pub walk_begins : Walk key depths kids i 0
  walk_begins = record { under = omega arith; ahead = λ m l e. l; back = λ depths' kids' g l. l }

  module _ (slot : ℕ) (w : Walk key depths kids i slot) where
    pub walk_inside : slot < length kids
    walk_inside = omega (arith, w.under, a.room.slots_room)

    none_here : (m : ℕ) → get_or kids slot 0 ≡ 0 → Leads key depths kids (key i) slot m → ⊥
    none_here m z (here e) = omega arith
    none_here m z (on j e l) = omega arith

    pub walk_free : get_or kids slot 0 ≡ 0 → Fresh key depths kids i slot
    walk_free z = record {
      free = z;
      under = w.under;
      new = λ m l e. none_here m z (w.ahead m l e);
      leads = λ depths' kids' g q. w.back depths' kids' g (here q);
    }

    module _ (j : ℕ) (at : get_or kids slot 0 ≡ j + 1) where
      below : j < i
      below = omega (arith, a.kept slot)

      pub walk_turns : Turning n depths i j
      walk_turns = record { given = a.given; below = below; depths_room = omega (arith, a.room.depths_room) }

      pub walk_taken : None ≡ turn_of (key i) (key j) j (get_or depths j 0) → Meets key kids i j
      walk_taken h = record { slot = slot; there = at; is_same = sym (same_is (key i) (key j) (turn_same (key i) (key j) j (get_or depths j 0) h)) }

      module _ (next : ℕ) (h : Some next ≡ turn_of (key i) (key j) j (get_or depths j 0)) where
        other : key j ≡ key i → ⊥
        other e = clash (sym (same_self (key i)) ∙ ap (same_text (key i)) (sym e) ∙ (turn_on (key i) (key j) j (get_or depths j 0) next h).0)

        en : next ≡ slot_of (key i) (key j) j (get_or depths j 0)
        en = (turn_on (key i) (key j) j (get_or depths j 0) next h).1

        pub walk_falls : 1 + 3 * i - next < 1 + 3 * i - slot
        walk_falls = omega (arith, en, side_few (key i) (key j) (get_or depths j 0), below, a.later slot j at, w.under)

        -- a walk to a text that is the same goes on
        goes : (m : ℕ) → key m ≡ key i → Leads key depths kids (key i) slot m → Leads key depths kids (key i) next m
        goes m e (here q) = let n : m ≡ j = omega arith in absurd (other (sym (ap key n) ∙ e))
        goes m e (on k q l) =
            let n : k ≡ j = omega arith in
            let s : next ≡ slot_of (key i) (key k) k (get_or depths k 0) = rw n en in
            subst (λ (x : ℕ). Leads key depths kids (key i) x m) (sym s) l

        pub walk_on : Walk key depths kids i next
        walk_on = record {
          under = omega (arith, en, side_few (key i) (key j) (get_or depths j 0), below);
          ahead = λ m l e. goes m e (w.ahead m l e);
          back = λ depths' kids' g l.
              let q : get_or kids' slot 0 ≡ j + 1 = g.same_slots slot (λ o. omega arith) ∙ at in
              let d : get_or depths' j 0 ≡ get_or depths j 0 = g.same_depths j below in
              w.back depths' kids' g (on j q (subst (λ (x : ℕ). Leads key depths' kids' (key i) x i) (en ∙ rw d refl) l));
        }
