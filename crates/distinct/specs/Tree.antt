-- For private contracts alone: the tree of the elements, in which an id finds its own. It is kept as slots, 128 where walks begin and three for each element; a slot
-- holds the number of its element and one more, or 0. Where a walk turns is of no account to what it finds: the same ids walk alike.
use Rattle.std.specs.Prelude.{ℕ, ◌+◌, ◌*◌, ◌/◌, ◌%◌, ◌^◌, ◌≤◌, ◌<◌, ◌≡◌, Bool, true, false, Option, Some, None, List, eqb, length, get_or, if◌then◌else◌}
use Rattle.base.specs.Texts.{same_text, Differ}
use Rattle.distinct.specs.Distinct.{id_of, Rows, Repeated}
use Rattle.distinct.specs.declared.Places.{Places}
use Rattle.distinct.specs.declared.Nodes.{Nodes}

-- the ids that stand at the places
abbrev pub ids_of : Places → ℕ → List ℕ
ids_of p = id_of p.line.now p.starts.now p.lens.now

-- the first n are given, and stand in the line
abbrev pub Stand : Places → ℕ → Type 0
Stand p n = Rows p.line.now p.starts.now p.lens.now n

abbrev pub bit_of : ℕ → ℕ → ℕ
bit_of x b = x / 2 ^ b % 2

-- where the walk of an id begins
abbrev pub head_of : List ℕ → ℕ
head_of own = get_or own 0 0 % 128

-- an id meets another at depth d
abbrev pub side_of : List ℕ → List ℕ → ℕ → ℕ
side_of own other d =
    if eqb (get_or own (d / 8) 0) (get_or other (d / 8) 0) then 2 else bit_of (get_or own (d / 8) 0) (d % 8)

-- the slot where the walk of an id goes on from element j, whose id is `other` and whose depth is d
abbrev pub slot_of : List ℕ → List ℕ → ℕ → ℕ → ℕ
slot_of own other j d = 128 + 3 * j + side_of own other d

-- it goes on if it is another id
abbrev pub turn_of : List ℕ → List ℕ → ℕ → ℕ → Option ℕ
turn_of own other j d = if same_text own other then None else Some (slot_of own other j d)

-- a slot whose element has a depth
pub record Asking (t : Nodes) (slot : ℕ) : Type 0 where
  pub slot_inside : slot < length t.kids.now
  pub depth_inside : get_or t.kids.now slot 0 ≤ length t.depths.now

-- by a bit goes only an id that is another
pub record Sided (own other : List ℕ) (side : ℕ) : Type 0 where
  pub bit_differs : (side ≡ 2 → ⊥) → false ≡ same_text own other

-- From a slot the id `own` is led to element m.
pub data Leads (id : ℕ → List ℕ) (depths kids own : List ℕ) : ℕ → ℕ → Type 0 where
  here : {q m : ℕ} → get_or kids q 0 ≡ m + 1 → Leads id depths kids own q m
  on : {q m : ℕ} (j : ℕ) → get_or kids q 0 ≡ j + 1 → Leads id depths kids own (slot_of own (id j) j (get_or depths j 0)) m → Leads id depths kids own q m

-- The first i elements are in the tree: each is found by its id, and no two have the same. An element's slots come after the slot that it is in.
pub record Tree (id : ℕ → List ℕ) (depths kids : List ℕ) (i : ℕ) : Type 0 where
  pub kept : (q : ℕ) → get_or kids q 0 ≤ i
  pub later : (q j : ℕ) → get_or kids q 0 ≡ j + 1 → q < 128 + 3 * j
  pub found : (m : ℕ) → m < i → Leads id depths kids (id m) (head_of (id m)) m
  pub differ : Differ id i

-- room for n elements
pub record Room (n : ℕ) (depths kids : List ℕ) : Type 0 where
  pub few : n < 65536
  pub depths_room : n ≤ length depths
  pub slots_room : 128 + 3 * n ≤ length kids

pub record Seeking (p : Places) (t : Nodes) (i : ℕ) : Type 0 where
  pub rows : Stand p (i + 1)
  pub room : Room (i + 1) t.depths.now t.kids.now
  pub tree : Tree (ids_of p) t.depths.now t.kids.now i

pub record Turning (p : Places) (t : Nodes) (i j : ℕ) : Type 0 where
  pub rows : Stand p (i + 1)
  pub room : Room (i + 1) t.depths.now t.kids.now
  pub below : j < i
  pub kept : (q : ℕ) → get_or t.kids.now q 0 ≤ i

-- a tree with more elements in it than the first i
pub record Grows (i : ℕ) (depths kids depths' kids' : List ℕ) : Type 0 where
  pub same_slots : (q : ℕ) → (get_or kids q 0 ≡ 0 → ⊥) → get_or kids' q 0 ≡ get_or kids q 0
  pub same_depths : (j : ℕ) → j < i → get_or depths' j 0 ≡ get_or depths j 0

-- no element before i has its id, and in the slot i would be found
pub record Fresh (id : ℕ → List ℕ) (depths kids : List ℕ) (i slot : ℕ) : Type 0 where
  pub free : get_or kids slot 0 ≡ 0
  pub under : slot < 128 + 3 * i
  pub new : (m : ℕ) → m < i → id m ≡ id i → ⊥
  pub leads : (depths' kids' : List ℕ) → Grows i depths kids depths' kids' → get_or kids' slot 0 ≡ i + 1 → Leads id depths' kids' (id i) (head_of (id i)) i

abbrev pub Sought : (ℕ → List ℕ) → List ℕ → List ℕ → ℕ → Option ℕ → Type 0
Sought id depths kids i None = Repeated id i
Sought id depths kids i (Some slot) = Fresh id depths kids i slot

-- element i goes into a slot of an element before it, or where walks begin
pub record Placing (p : Places) (depths : List ℕ) (slot i : ℕ) : Type 0 where
  pub rows : Stand p (i + 1)
  pub below : i < length depths
  pub under : slot < 128 + 3 * i

-- what is asked of a caller: the ids lie in the line, and there is room, all zeros, for each
pub record Asked (line starts lens : List ℕ) (n : ℕ) (depths kids : List ℕ) : Type 0 where
  pub rows : Rows line starts lens n
  pub room : Room n depths kids
  pub clear : (q : ℕ) → get_or kids q 0 ≡ 0

-- whether the id of element i is that of an element before it
abbrev pub Occurs : (ℕ → List ℕ) → ℕ → Bool → Type 0
Occurs id i true = Repeated id i
Occurs id i false = (m : ℕ) → m < i → id m ≡ id i → ⊥
