-- The tree of the first elements: it begins empty, one more element goes into its slot, and what it says of their ids.
use Prim.Native.Nat.{ℕ, ◌+◌, ◌*◌, ◌≤◌, ◌<◌}
use mathlib.Core.Path.{◌≡◌, refl, sym, ap, ◌∙◌, subst}
use mathlib.Core.List.{List}
use Rattle.std.specs.Prelude.{Option, Some}
use native.Mathlib.Decide.{ℕ_discrete}
use native.Mathlib.Omega.{arith}
use lib.ListN.{length, get_or, set, length-set}
use lib.Seq.{get_or-set_same, get_or-set_other}
use Rattle.base.specs.Texts.{Differ}
use Rattle.distinct.specs.declared.Places.{Places}
use Rattle.distinct.specs.Tree.{ids_of, Stand, head_of, slot_of, Leads, Tree, Room, Grows, Fresh, Sought}
use Rattle.distinct.specs.Tree.Leads.{here, on}

-- the first i of n elements are in the tree
pub record Placed (p : Places) (n : ℕ) (depths kids : List ℕ) (i : ℕ) : Type 0 where
  pub rows : Stand p n
  pub room : Room n depths kids
  pub tree : Tree (ids_of p) depths kids i
  pub inside : i ≤ n

-- ---- one element more

module _ (id : ℕ → List ℕ) (depths kids : List ℕ) (i : ℕ) (t : Tree id depths kids i) where
  -- a larger tree leads where a smaller one does
  leads_more : (depths' kids' own : List ℕ) → Grows i depths kids depths' kids' → {q m : ℕ} → Leads id depths kids own q m → Leads id depths' kids' own q m
  leads_more depths' kids' own g {q} (here e) = here (g.same_slots q (λ z. omega arith) ∙ e)
  leads_more depths' kids' own g {q} {m} (on j e l) =
      let d : get_or depths' j 0 ≡ get_or depths j 0 = g.same_depths j (omega (arith, t.kept q)) in
      on j (g.same_slots q (λ z. omega arith) ∙ e)
      (subst (λ (x : ℕ). Leads id depths' kids' own (slot_of own (id j) j x) m) (sym d) (leads_more depths' kids' own g l))

  module _ (slot d : ℕ) (f : Fresh id depths kids i slot) (h : slot < length kids) where
    at : (P : ℕ → ℕ → Type 0) → P slot (i + 1) → ((q : ℕ) → (q ≡ slot → ⊥) → P q (get_or kids q 0)) → (q : ℕ) → P q (get_or (set kids slot (i + 1)) q 0)
    at P p r q = go (ℕ_discrete q slot)
      where
        go : Dec (q ≡ slot) → P q (get_or (set kids slot (i + 1)) q 0)
        go (yes e) = rw (e, get_or-set_same kids slot (i + 1) 0 h) p
        go (no e) = rw (get_or-set_other kids slot q (i + 1) 0 e) (r q e)

    grows : Grows i depths kids (set depths i d) (set kids slot (i + 1))
    grows = record {
      same_slots = at (λ q v. (get_or kids q 0 ≡ 0 → ⊥) → v ≡ get_or kids q 0) (λ z. absurd (z f.free)) (λ q e z. refl);
      same_depths = λ j l. get_or-set_other depths i j d 0 (λ e. omega arith);
    }

    found_more : (m : ℕ) → m < i + 1 → Leads id (set depths i d) (set kids slot (i + 1)) (id m) (head_of (id m)) m
    found_more m l = go (ℕ_discrete m i)
      where
        go : Dec (m ≡ i) → Leads id (set depths i d) (set kids slot (i + 1)) (id m) (head_of (id m)) m
        go (yes e) = rw e (f.leads (set depths i d) (set kids slot (i + 1)) grows (get_or-set_same kids slot (i + 1) 0 h))
        go (no e) = leads_more (set depths i d) (set kids slot (i + 1)) (id m) grows (t.found m (omega arith))

    differ_more : Differ id (i + 1)
    differ_more a b p l q = go (ℕ_discrete b i)
      where
        go : Dec (b ≡ i) → ⊥
        go (yes e) = f.new a (omega arith) (q ∙ ap id e)
        go (no e) = t.differ a b p (omega arith) q

    tree_more : Tree id (set depths i d) (set kids slot (i + 1)) (i + 1)
    tree_more = record {
      kept = at (λ q v. v ≤ i + 1) (omega arith) (λ q e. omega (arith, t.kept q));
      later = at (λ q v. (j : ℕ) → v ≡ j + 1 → q < 128 + 3 * j) (λ j e. omega (arith, f.under)) (λ q e j. t.later q j);
      found = found_more;
      differ = differ_more;
    }

-- ---- the loop

module _ (at : Places) (n : ℕ) (depths kids : List ℕ) where
  module _ (i : ℕ) (p : Placed at n depths kids i) where
    module _ (h : i < n) where
      module _ (r : Option ℕ) (s : Sought (ids_of at) depths kids i r) where
        module _ (slot : ℕ) (e : r ≡ Some slot) where
          fresh : Fresh (ids_of at) depths kids i slot
          fresh = subst (Sought (ids_of at) depths kids i) e s

          slot_inside : slot < length kids
          slot_inside = omega (arith, fresh.under, p.room.slots_room)

          pub tree_grows : (d : ℕ) → Placed at n (set depths i d) (set kids slot (i + 1)) (i + 1)
          tree_grows d = record {
            rows = p.rows;
            room = record { few = p.room.few; depths_room = simp length-set p.room.depths_room; slots_room = simp length-set p.room.slots_room };
            tree = tree_more (ids_of at) depths kids i p.tree slot d fresh slot_inside;
            inside = omega arith;
          }
