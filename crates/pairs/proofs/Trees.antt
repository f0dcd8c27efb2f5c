-- The tree of the first texts: it begins empty, and one more text gets its class.
use Prim.Native.Nat.{ℕ, ◌+◌, ◌*◌, ◌≤◌, ◌<◌}
use mathlib.Core.Path.{◌≡◌, refl, sym, ◌∙◌, subst}
use mathlib.Core.List.{List}
use native.Mathlib.Decide.{ℕ_discrete}
use native.Mathlib.Omega.{arith}
use lib.ListN.{length, get_or, set, length-set}
use lib.Seq.{get_or-set_same, get_or-set_other}
use Rattle.pairs.specs.Tree.{slot_of, Leads, Tree, Room, Seeking, Grows, Meets, Fresh, Classed, Asked, Classes}
use Rattle.pairs.specs.Tree.Leads.{here, on}
use Rattle.pairs.specs.Tree.Classed.{met, first}

-- ---- the tree with one text more

module _ (key : ℕ → List ℕ) (depths kids classes : List ℕ) (i : ℕ) (t : Tree key depths kids classes i) (l : i < length classes) where
  -- a larger tree leads where a smaller one does
  leads_more : (depths' kids' own : List ℕ) → Grows i depths kids depths' kids' → {q m : ℕ} → Leads key depths kids own q m → Leads key depths' kids' own q m
  leads_more depths' kids' own g {q} (here e) = here (g.same_slots q (λ z. omega arith) ∙ e)
  leads_more depths' kids' own g {q} {m} (on j e l) =
      let d : get_or depths' j 0 ≡ get_or depths j 0 = g.same_depths j (omega (arith, t.kept q)) in
      on j (g.same_slots q (λ z. omega arith) ∙ e)
      (subst (λ (x : ℕ). Leads key depths' kids' own (slot_of own (key j) j x) m) (sym d) (leads_more depths' kids' own g l))

  -- the classes with that of text i: a fact of each is one of c and one of the classes before
  by_class : (c : ℕ) (P : ℕ → ℕ → Type 0) → P i c → ((m : ℕ) → m < i → P m (get_or classes m 0)) → (m : ℕ) → m < i + 1 → P m (get_or (set classes i c) m 0)
  by_class c P p r m b = go (ℕ_discrete m i)
    where
      go : Dec (m ≡ i) → P m (get_or (set classes i c) m 0)
      go (yes e) = rw (e, get_or-set_same classes i c 0 l) p
      go (no e) = rw (get_or-set_other classes i m c 0 e) (r m (omega arith))

  module _ (c : ℕ) (depths' kids' : List ℕ) (g : Grows i depths kids depths' kids') (small : c < i + 1) (is_same : key c ≡ key i)
      (kept : (q : ℕ) → get_or kids' q 0 ≤ i + 1) (later : (q j : ℕ) → get_or kids' q 0 ≡ j + 1 → q < 1 + 3 * j)
      (own : (q j : ℕ) → get_or kids' q 0 ≡ j + 1 → get_or (set classes i c) j 0 ≡ j)
      (leads : Leads key depths' kids' (key i) 0 c) (alike : (m : ℕ) → m < i → key m ≡ key i → get_or classes m 0 ≡ c) where
    with_class : Tree key depths' kids' (set classes i c) (i + 1)
    with_class = record {
      kept = kept;
      later = later;
      own = own;
      led = by_class c (λ m x. Leads key depths' kids' (key m) 0 x) leads (λ m b. leads_more depths' kids' (key m) g (t.led m b));
      same = by_class c (λ m x. key x ≡ key m) is_same t.same;
      below = by_class c (λ m x. x < i + 1) small (λ m b. omega (arith, t.below m b));
      alike = λ x y bx by.
          by_class c (λ m u. key m ≡ key y → u ≡ get_or (set classes i c) y 0)
          (by_class c (λ m u. key i ≡ key m → c ≡ u) (λ e. refl) (λ m b e. sym (alike m b (sym e))) y by)
          (λ n bn.
          by_class c (λ m u. key n ≡ key m → get_or classes n 0 ≡ u) (alike n bn) (λ m b e. t.alike n m bn b e) y by)
          x bx;
    }

  -- a text that was met
  module _ (c : ℕ) (m : Meets key kids i c) where
    below : c < i
    below = omega (arith, t.kept m.slot, m.there)

    own_class : get_or classes c 0 ≡ c
    own_class = t.own m.slot c m.there

    tree_met : Tree key depths kids (set classes i c) (i + 1)
    tree_met =
        with_class c depths kids (record { same_slots = λ q z. refl; same_depths = λ j b. refl }) (omega (arith, below)) m.is_same
        (λ q. omega (arith, t.kept q)) t.later
        (λ q j e. get_or-set_other classes i j c 0 (λ o. omega (arith, t.kept q)) ∙ t.own q j e)
        (subst (λ (x : ℕ). Leads key depths kids (key i) 0 x) own_class (subst (λ (s : List ℕ). Leads key depths kids s 0 (get_or classes c 0)) m.is_same (t.led c below)))
        (λ n b e. t.alike n c b below (e ∙ sym m.is_same) ∙ own_class)

  -- one that is new
  module _ (slot d : ℕ) (f : Fresh key depths kids i slot) (h : slot < length kids) where
    at : (P : ℕ → ℕ → Type 0) → P slot (i + 1) → ((q : ℕ) → (q ≡ slot → ⊥) → P q (get_or kids q 0)) → (q : ℕ) → P q (get_or (set kids slot (i + 1)) q 0)
    at P p r q = go (ℕ_discrete q slot)
      where
        go : Dec (q ≡ slot) → P q (get_or (set kids slot (i + 1)) q 0)
        go (yes e) = rw (e, get_or-set_same kids slot (i + 1) 0 h) p
        go (no e) = rw (get_or-set_other kids slot q (i + 1) 0 e) (r q e)

    grows : Grows i depths kids (set depths i d) (set kids slot (i + 1))
    grows = record {
      same_slots = at (λ q v. (get_or kids q 0 ≡ 0 → ⊥) → v ≡ get_or kids q 0) (λ z. absurd (z f.free)) (λ q e z. refl);
      same_depths = λ j b. get_or-set_other depths i j d 0 (λ e. omega arith);
    }

    own_first : (j : ℕ) → i + 1 ≡ j + 1 → get_or (set classes i i) j 0 ≡ j
    own_first j e = let q : j ≡ i = omega arith in rw q (get_or-set_same classes i i 0 l)

    tree_first : Tree key (set depths i d) (set kids slot (i + 1)) (set classes i i) (i + 1)
    tree_first =
        with_class i (set depths i d) (set kids slot (i + 1)) grows (omega arith) refl
        (at (λ q v. v ≤ i + 1) (omega arith) (λ q e. omega (arith, t.kept q)))
        (at (λ q v. (j : ℕ) → v ≡ j + 1 → q < 1 + 3 * j) (λ j e. omega (arith, f.under)) (λ q e j. t.later q j))
        (at (λ q v. (j : ℕ) → v ≡ j + 1 → get_or (set classes i i) j 0 ≡ j) own_first
        (λ q o j e. get_or-set_other classes i j i 0 (λ z. omega (arith, t.kept q)) ∙ t.own q j e))
        (f.leads (set depths i d) (set kids slot (i + 1)) grows (get_or-set_same kids slot (i + 1) 0 h))
        (λ m b e. absurd (f.new (get_or classes m 0) (subst (λ (s : List ℕ). Leads key depths kids s 0 (get_or classes m 0)) e (t.led m b)) (t.same m b ∙ e)))

-- ---- the loop

-- the first i texts have their classes
pub record Sorted (key : ℕ → List ℕ) (n : ℕ) (depths kids classes : List ℕ) (i : ℕ) : Type 0 where
  pub room : Room n depths kids
  pub all : length classes ≡ n
  pub tree : Tree key depths kids classes i

module _ (key : ℕ → List ℕ) (n : ℕ) (depths kids classes : List ℕ) where
  pub sorted_begins : Asked n depths kids classes → Sorted key n depths kids classes 0
  sorted_begins a = record {
    room = a.room;
    all = a.classes_room;
    tree = record {
      kept = λ q. omega (arith, a.clear q);
      later = λ q j e. absurd (omega (arith, a.clear q));
      own = λ q j e. absurd (omega (arith, a.clear q));
      led = λ m b. absurd (omega arith);
      same = λ m b. absurd (omega arith);
      below = λ m b. absurd (omega arith);
      alike = λ x y b c. absurd (omega arith);
    };
  }

  pub sorted_all : (i : ℕ) → Sorted key n depths kids classes i → i ≡ n → Classes key n classes
  sorted_all i p e = rw (← e) (record { below = p.tree.below; same = p.tree.same; alike = p.tree.alike })

  module _ (i : ℕ) (p : Sorted key n depths kids classes i) (h : i < n) where
    pub sorted_seeks : Seeking n depths kids i
    sorted_seeks = record {
      given = h;
      room = record { depths_room = omega (arith, p.room.depths_room); slots_room = omega (arith, p.room.slots_room) };
      kept = p.tree.kept;
      later = p.tree.later;
    }

    inside : i < length classes
    inside = omega (arith, p.all)

    module _ (c : ℕ) (depths' kids' : List ℕ) (k : Classed key depths kids i c depths' kids') where
      pub class_le : c ≤ i
      class_le = go k
        where
          go : Classed key depths kids i c depths' kids' → c ≤ i
          go (met m ed ek) = omega (arith, below key depths kids classes i p.tree inside c m)
          go (first slot d e f ed ek) = omega arith

      pub sorted_on : Sorted key n depths' kids' (set classes i c) (i + 1)
      sorted_on = go k
        where
          go : Classed key depths kids i c depths' kids' → Sorted key n depths' kids' (set classes i c) (i + 1)
          go (met m ed ek) = rw (ed, ek)
              (record { room = p.room; all = simp length-set p.all; tree = tree_met key depths kids classes i p.tree inside c m })
          go (first slot d e f ed ek) = rw (ed, ek, e)
              (record {
                room = record { depths_room = simp length-set p.room.depths_room; slots_room = simp length-set p.room.slots_room };
                all = simp length-set p.all;
                tree = tree_first key depths kids classes i p.tree inside slot d f (omega (arith, f.under, p.room.slots_room));
              })
