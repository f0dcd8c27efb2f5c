-- For private contracts alone: the tree of the texts, in which a text finds its class: the first that is the same. It is kept as slots, one where walks begin and three for
-- each text; a slot holds the number of its text and one more, or 0. Where a walk turns is of no account to what it finds: the same texts walk alike.
use Rattle.std.specs.Prelude.{ℕ, ◌+◌, ◌*◌, ◌/◌, ◌%◌, ◌^◌, ◌≤◌, ◌<◌, ◌≡◌, List, Option, Some, None, Result, Ok, Err, eqb, length, get_or, set, if◌then◌else◌}
use Rattle.base.specs.Texts.{same_text}

abbrev pub bit_of : ℕ → ℕ → ℕ
bit_of x b = x / 2 ^ b % 2

-- a text meets another at depth d
abbrev pub side_of : List ℕ → List ℕ → ℕ → ℕ
side_of own other d =
    if eqb (get_or own (d / 8) 0) (get_or other (d / 8) 0) then 2 else bit_of (get_or own (d / 8) 0) (d % 8)

-- the slot to which a text goes that meets text j, which is `other` and has depth d
abbrev pub slot_of : List ℕ → List ℕ → ℕ → ℕ → ℕ
slot_of own other j d = 1 + 3 * j + side_of own other d

-- where it goes on, if it is not the same
abbrev pub turn_of : List ℕ → List ℕ → ℕ → ℕ → Option ℕ
turn_of own other j d = if same_text own other then None else Some (slot_of own other j d)

-- From a slot the text `own` is led to text m.
pub data Leads (key : ℕ → List ℕ) (depths kids own : List ℕ) : ℕ → ℕ → Type 0 where
  here : {q m : ℕ} → get_or kids q 0 ≡ m + 1 → Leads key depths kids own q m
  on : {q m : ℕ} (j : ℕ) → get_or kids q 0 ≡ j + 1 → Leads key depths kids own (slot_of own (key j) j (get_or depths j 0)) m → Leads key depths kids own q m

-- The first i texts have their classes, and each is led to its own. A text's slots come after the slot that it is in, and a text in a slot is its own class.
pub record Tree (key : ℕ → List ℕ) (depths kids classes : List ℕ) (i : ℕ) : Type 0 where
  pub kept : (q : ℕ) → get_or kids q 0 ≤ i
  pub later : (q j : ℕ) → get_or kids q 0 ≡ j + 1 → q < 1 + 3 * j
  pub own : (q j : ℕ) → get_or kids q 0 ≡ j + 1 → get_or classes j 0 ≡ j
  pub led : (m : ℕ) → m < i → Leads key depths kids (key m) 0 (get_or classes m 0)
  pub same : (m : ℕ) → m < i → key (get_or classes m 0) ≡ key m
  pub below : (m : ℕ) → m < i → get_or classes m 0 < i
  pub alike : (a b : ℕ) → a < i → b < i → key a ≡ key b → get_or classes a 0 ≡ get_or classes b 0

-- room for n texts
pub record Room (n : ℕ) (depths kids : List ℕ) : Type 0 where
  pub depths_room : n ≤ length depths
  pub slots_room : 1 + 3 * n ≤ length kids

-- text i of n meets text j
pub record Turning (n : ℕ) (depths : List ℕ) (i j : ℕ) : Type 0 where
  pub given : i < n
  pub below : j < i
  pub depths_room : i ≤ length depths

-- text i of n walks: each slot has a text before it, or none
pub record Seeking (n : ℕ) (depths kids : List ℕ) (i : ℕ) : Type 0 where
  pub given : i < n
  pub room : Room (i + 1) depths kids
  pub kept : (q : ℕ) → get_or kids q 0 ≤ i
  pub later : (q j : ℕ) → get_or kids q 0 ≡ j + 1 → q < 1 + 3 * j

-- a tree with more texts in it than the first i
pub record Grows (i : ℕ) (depths kids depths' kids' : List ℕ) : Type 0 where
  pub same_slots : (q : ℕ) → (get_or kids q 0 ≡ 0 → ⊥) → get_or kids' q 0 ≡ get_or kids q 0
  pub same_depths : (j : ℕ) → j < i → get_or depths' j 0 ≡ get_or depths j 0

-- text j is in a slot, and text i is the same
pub record Meets (key : ℕ → List ℕ) (kids : List ℕ) (i j : ℕ) : Type 0 where
  pub slot : ℕ
  pub there : get_or kids slot 0 ≡ j + 1
  pub is_same : key j ≡ key i

-- text i is led to none that is the same, and in the slot it would be led to itself
pub record Fresh (key : ℕ → List ℕ) (depths kids : List ℕ) (i slot : ℕ) : Type 0 where
  pub free : get_or kids slot 0 ≡ 0
  pub under : slot < 1 + 3 * i
  pub new : (m : ℕ) → Leads key depths kids (key i) 0 m → key m ≡ key i → ⊥
  pub leads : (depths' kids' : List ℕ) → Grows i depths kids depths' kids' → get_or kids' slot 0 ≡ i + 1 → Leads key depths' kids' (key i) 0 i

abbrev pub Sought : (ℕ → List ℕ) → List ℕ → List ℕ → ℕ → Result ℕ ℕ → Type 0
Sought key depths kids i (Ok j) = Meets key kids i j
Sought key depths kids i (Err slot) = Fresh key depths kids i slot

-- text i of n goes into a slot of a text before it, or where walks begin
pub record Placing (n : ℕ) (depths : List ℕ) (slot i : ℕ) : Type 0 where
  pub given : i < n
  pub below : i < length depths
  pub under : slot < 1 + 3 * i

-- Text i has class r: that of a text which it meets, or its own, in a slot of the tree.
pub data Classed (key : ℕ → List ℕ) (depths kids : List ℕ) (i r : ℕ) (depths' kids' : List ℕ) : Type 0 where
  met : Meets key kids i r → depths' ≡ depths → kids' ≡ kids → Classed key depths kids i r depths' kids'
  first : (slot d : ℕ) → r ≡ i → Fresh key depths kids i slot → depths' ≡ set depths i d → kids' ≡ set kids slot (i + 1) → Classed key depths kids i r depths' kids'

-- what is asked of a caller: there is room, all zeros, for each text
pub record Asked (n : ℕ) (depths kids classes : List ℕ) : Type 0 where
  pub room : Room n depths kids
  pub classes_room : length classes ≡ n
  pub clear : (q : ℕ) → get_or kids q 0 ≡ 0

-- the classes of n texts: two have one class where they are the same, and only there
pub record Classes (key : ℕ → List ℕ) (n : ℕ) (classes : List ℕ) : Type 0 where
  pub below : (m : ℕ) → m < n → get_or classes m 0 < n
  pub same : (m : ℕ) → m < n → key (get_or classes m 0) ≡ key m
  pub alike : (a b : ℕ) → a < n → b < n → key a ≡ key b → get_or classes a 0 ≡ get_or classes b 0
