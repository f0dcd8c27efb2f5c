-- The walk of an id among the elements before its own.
use Prim.Native.Nat.{ℕ, ◌+◌, ◌*◌, ◌-◌, ◌<◌}
use mathlib.Core.Path.{◌≡◌, refl, sym, ap, ◌∙◌, subst}
use mathlib.Core.Bool.{true, false}
use mathlib.Core.List.{List}
use Rattle.std.specs.Prelude.{Option, Some, None, if◌then◌else◌}
use native.Mathlib.Omega.{arith}
use lib.ListN.{get_or}
use Rattle.base.specs.Texts.{same_text}
use Rattle.base.proofs.Tests.{clash, by_test}
use Rattle.base.proofs.Texts.{same_is, same_self}
use Rattle.distinct.specs.declared.Places.{Places}
use Rattle.distinct.specs.declared.Nodes.{Nodes}
use Rattle.distinct.specs.Distinct.{Repeated}
use Rattle.distinct.specs.Tree.{ids_of, head_of, side_of, slot_of, turn_of, Asking, Leads, Seeking, Turning, Grows, Fresh}
use Rattle.distinct.specs.Tree.Leads.{here, on}
use Rattle.distinct.proofs.Turns.{side_few, sided}

-- The walk of element i has come to a slot: from there its id leads to each earlier element that has the same, and what is found from there is found from the
-- beginning.
pub record Walk (id : ℕ → List ℕ) (depths kids : List ℕ) (i slot : ℕ) : Type 0 where
  pub under : slot < 128 + 3 * i
  pub heirs : (m : ℕ) → m < i → id m ≡ id i → Leads id depths kids (id i) slot m
  pub back : (depths' kids' : List ℕ) → Grows i depths kids depths' kids' → Leads id depths' kids' (id i) slot i → Leads id depths' kids' (id i) (head_of (id i)) i

-- ---- a turn

module _ (at : Places) (tree : Nodes) (i j : ℕ) (a : Turning at tree i j) where
  module _ (own other : List ℕ) (eo : own ≡ ids_of at i) (et : other ≡ ids_of at j) (d : ℕ) (ed : d ≡ get_or tree.depths.now j 0) (side : ℕ) (es : side ≡ side_of own other d) where
    pub turn_asks : Asking tree (128 + 3 * j + side)
    turn_asks = record {
      slot_inside = omega (arith, es, side_few own other d, a.below, a.room.slots_room);
      depth_inside = omega (arith, a.kept (128 + 3 * j + side), a.room.depths_room);
    }

pub ruleset turn_laws = (sided, turn_asks)

-- ---- the walk

module _ (at : Places) (tree : Nodes) (i : ℕ) (a : Seeking at tree i) where
  abbrev id : ℕ → List ℕ
  id = ids_of at

  module _ (slot : ℕ) (w : Walk (ids_of at) tree.depths.now tree.kids.now i slot) where
    none_here : (m : ℕ) → get_or tree.kids.now slot 0 ≡ 0 → Leads id tree.depths.now tree.kids.now (id i) slot m → ⊥
    none_here m z (here e) = omega arith
    none_here m z (on j e l) = omega arith

    pub walk_free : get_or tree.kids.now slot 0 ≡ 0 → Fresh (ids_of at) tree.depths.now tree.kids.now i slot
    walk_free z = record {
      free = z;
      under = w.under;
      new = λ m l e. none_here m z (w.heirs m l e);
      leads = λ depths' kids' g q. w.back depths' kids' g (here q);
    }

    module _ (j : ℕ) (met : get_or tree.kids.now slot 0 ≡ j + 1) where
      below : j < i
      below = omega (arith, a.tree.kept slot)

      module _ (t : Option ℕ) (et : t ≡ turn_of (ids_of at i) (ids_of at j) j (get_or tree.depths.now j 0)) where
        same : t ≡ None → same_text (id i) (id j) ≡ true
        same h = by_test (λ b. (if b then None else Some (slot_of (id i) (id j) j (get_or tree.depths.now j 0))) ≡ None → b ≡ true) (same_text (id i) (id j)) (λ _ _. refl) (λ _ o. cc) (sym et ∙ h)

        pub walk_taken : t ≡ None → Repeated (ids_of at) i
        walk_taken h = record { earlier = j; is_earlier = below; is_same = sym (same_is (id i) (id j) (same h)) }

        module _ (next : ℕ) (h : t ≡ Some next) where
          turned : (same_text (id i) (id j) ≡ false) × (next ≡ slot_of (id i) (id j) j (get_or tree.depths.now j 0))
          turned = by_test (λ b. (if b then None else Some (slot_of (id i) (id j) j (get_or tree.depths.now j 0))) ≡ Some next → (b ≡ false) × (next ≡ slot_of (id i) (id j) j (get_or tree.depths.now j 0))) (same_text (id i) (id j)) (λ _ o. absurd cc) (λ _ o. (refl, cc)) (sym et ∙ h)

          other : id j ≡ id i → ⊥
          other e = clash (sym (same_self (id i)) ∙ ap (same_text (id i)) (sym e) ∙ turned.0)

          slot_is : next ≡ slot_of (id i) (id j) j (get_or tree.depths.now j 0)
          slot_is = turned.1

          pub walk_falls : 128 + 3 * i - next < 128 + 3 * i - slot
          walk_falls = omega (arith, slot_is, side_few (id i) (id j) (get_or tree.depths.now j 0), below, a.tree.later slot j met, w.under)

          -- a walk to an earlier element with the same id goes on
          goes : (m : ℕ) → id m ≡ id i → Leads id tree.depths.now tree.kids.now (id i) slot m → Leads id tree.depths.now tree.kids.now (id i) next m
          goes m e (here q) = let n : m ≡ j = omega arith in absurd (other (sym (ap id n) ∙ e))
          goes m e (on p q l) =
              let n : p ≡ j = omega arith in
              let s : next ≡ slot_of (id i) (id p) p (get_or tree.depths.now p 0) = rw n slot_is in
              subst (λ (x : ℕ). Leads id tree.depths.now tree.kids.now (id i) x m) (sym s) l

          pub walk_on : Walk (ids_of at) tree.depths.now tree.kids.now i next
          walk_on = record {
            under = omega (arith, slot_is, side_few (id i) (id j) (get_or tree.depths.now j 0), below);
            heirs = λ m l e. goes m e (w.heirs m l e);
            back = λ depths' kids' g l.
                let q : get_or kids' slot 0 ≡ j + 1 = g.same_slots slot (λ o. omega arith) ∙ met in
                let d : get_or depths' j 0 ≡ get_or tree.depths.now j 0 = g.same_depths j below in
                w.back depths' kids' g (on j q (subst (λ (x : ℕ). Leads id depths' kids' (id i) x i) (slot_is ∙ rw d refl) l));
          }

pub ruleset walk_laws = (walk_free, walk_taken, walk_falls)
