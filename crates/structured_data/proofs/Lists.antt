-- The list of elements: one step of the walk over it.
use Prim.Native.Nat.{ℕ, zero, suc, ◌+◌, ◌-◌, ◌≤◌, ◌<◌}
use mathlib.Core.Path.{◌≡◌, refl, ap, ◌∙◌}
use mathlib.Core.Bool.{false, ◌&&◌}
use mathlib.Core.List.{List, [], ◌∷◌}
use native.Mathlib.Decide.{dec_le}
use native.Mathlib.Omega.{arith}
use lib.Dec.{leb}
use lib.ListN.{length, drop, length-drop}
use lib.Seq.{drop-drop}
use borrow.Author.Tests.{leb-true}
use Rattle.base.specs.Choose.{is_at}
use Rattle.base.specs.Runs.{run}
use Rattle.base.proofs.Tests.{both, by_if}
use Rattle.base.proofs.Parts.{step, ended as drop_end, at_below}
use Rattle.parsers.specs.Steps.{is_inside}
use Rattle.structured_data.specs.Element.{Params, params_from}
use Rattle.structured_data.specs.Element.Element.{no_element, is_element}
use Rattle.structured_data.specs.Data.{Rows, end_at, element_and, Item, item_of, item_and, item_from, elements_from}
use Rattle.structured_data.specs.Data.Item.{taken, skipped, ended}
use Rattle.structured_data.specs.Steps.{open_from, turn_of}
use Rattle.structured_data.specs.declared.Rules.{Rules}
use Rattle.structured_data.specs.declared.Rules.TheVariants.{Rfc3164Rules, Rfc5424Rules}
use Rattle.structured_data.specs.declared.Open.{Open}
use Rattle.structured_data.specs.declared.Turn.{Turn}
use Rattle.structured_data.proofs.Walks.{params_reach}
use Rattle.structured_data.proofs.Elements.{opens}
use Rattle.structured_data.proofs.Items.{failed_5424, item_is}

-- what is left of the list at position `i` of the line, the next element being number `e`
abbrev pub left : Rules → List ℕ → ℕ → ℕ → Rows
left rules s e i = elements_from rules e 0 i (drop i s)

-- the rows of element `e` at `i`
abbrev pub id_row : List ℕ → ℕ → List ℕ
id_row s i = (i + 1) ∷ (open_from s i).id ∷ []

abbrev pub param_rows : List ℕ → ℕ → ℕ → List (List ℕ)
param_rows s e i = (params_from e (open_from s i).start (drop (open_from s i).start s)).rows

-- What an item may be
data Shaped (s : List ℕ) (e i : ℕ) : Item → Type 0 where
  takes : (next : ℕ) → i + length (param_rows s e i) < next → next ≤ length s → Shaped s e i (taken (id_row s i) (param_rows s e i) next)
  skips : (next : ℕ) → i < next → next ≤ length s → Shaped s e i (skipped next)
  ends : Shaped s e i ended

failed_shaped : (rules : Rules) (s : List ℕ) (e i : ℕ) → Shaped s e i (item_of rules i (drop i s) no_element)
failed_shaped Rfc3164Rules s e i = ends
failed_shaped Rfc5424Rules s e i =
    rw (failed_5424 Rfc5424Rules s i refl)
    (by_if (Shaped s e i) (is_at s i 91 && is_at s (i + run is_inside (drop i s)) 93) (skipped (i + run is_inside (drop i s) + 1)) ended
    (λ h. skips _ (omega arith) (omega (arith, at_below s (i + run is_inside (drop i s)) 92 (both (is_at s i 91) _ h).1)))
    (λ h. ends))

found_shaped : (rules : Rules) (s : List ℕ) (e i next : ℕ) → i + length (param_rows s e i) < next → next ≤ length s
    → Shaped s e i (item_of rules i (drop i s) (is_element (id_row s i) (param_rows s e i) next))
found_shaped Rfc5424Rules s e i next h l = takes next h l
found_shaped Rfc3164Rules s e i next h l = by_if (Shaped s e i) (leb 1 (length (param_rows s e i))) (taken (id_row s i) (param_rows s e i) next) ended (λ q. takes next h l) (λ q. ends)

item_shaped : (rules : Rules) (s : List ℕ) (e i : ℕ) → Shaped s e i (item_from rules e i (drop i s))
item_shaped rules s e i =
    rw (item_is rules s i e)
    (by_if (λ x. Shaped s e i (item_of rules i (drop i s) x)) (leb 1 o.id && is_at s ps.next 93) (is_element (id_row s i) ps.rows (ps.next + 1)) no_element
    (λ h.
    let (z, q) = both (leb 1 o.id) (is_at s ps.next 93) h in
    let w = opens s i in
    let n : i < o.start = w.start_behind (λ y. omega (arith, leb-true 1 o.id z)) in
    let r = params_reach e o.start s w.start_within in
    found_shaped rules s e i (ps.next + 1) (omega (arith, r.few)) (omega (arith, at_below s ps.next 92 q)))
    (λ h. failed_shaped rules s e i))
  where
    o : Open
    o = open_from s i

    ps : Params
    ps = params_from e (open_from s i).start (drop (open_from s i).start s)

-- One step
module _ (rules : Rules) where
  skip : (e k at : ℕ) (t : List ℕ) → k ≤ length t → elements_from rules e k at t ≡ elements_from rules e 0 (at + k) (drop k t)
  unfolding elements_from
  skip e zero at t h = let p : at ≡ at + 0 = omega arith in ap (λ (a : ℕ). elements_from rules e 0 a t) p
  skip e (suc k) at [] h = absurd (omega arith)
  skip e (suc k) at (b ∷ t) h =
      let p : at + 1 + k ≡ at + suc k = omega arith in
      skip e k (at + 1) t (omega arith) ∙ ap (λ (a : ℕ). elements_from rules e 0 a (drop k t)) p

  module _ (s : List ℕ) (i : ℕ) where
    skip_to : (e next : ℕ) → i < next → next ≤ length s → elements_from rules e (next - i - 1) (i + 1) (drop (i + 1) s) ≡ left rules s e next
    skip_to e next h l =
        let k = next - i - 1 in
        let p : i + 1 + k ≡ next = omega arith in
        skip e k (i + 1) (drop (i + 1) s) (omega (arith, length-drop (i + 1) s))
        ∙ ap (elements_from rules e 0 (i + 1 + k)) (drop-drop k (i + 1) s)
        ∙ ap (left rules s e) p

    abbrev behind : ℕ → ℕ → Rows
    behind f next = elements_from rules f (next - i - 1) (i + 1) (drop (i + 1) s)

    unrolled : (e : ℕ) → i < length s → left rules s e i ≡ item_and e i (item_from rules e i (drop i s)) behind
    unfolding elements_from
    unrolled e h = rw (step s i h)

    -- the list where nothing is left of the line
    pub over : (e : ℕ) → length s ≤ i → left rules s e i ≡ end_at i
    unfolding elements_from
    over e h = rw (drop_end s i h)

-- What a turn says of the list
pub data Follows (rules : Rules) (s : List ℕ) (e i dead : ℕ) (r : Turn) : Type 0 where
  ends : r ≡ record { elements = 0; params = 0; next = i; dead = dead } → left rules s e i ≡ end_at i → Follows rules s e i dead r
  skips : (next : ℕ) → r ≡ record { elements = 0; params = 0; next = next; dead = dead } → i < next → next ≤ length s
      → left rules s e i ≡ left rules s e next
      → Follows rules s e i dead r
  takes : (next : ℕ) → r ≡ record { elements = 1; params = length (param_rows s e i); next = next; dead = dead } → i + length (param_rows s e i) < next → next ≤ length s
      → left rules s e i ≡ element_and (id_row s i) (param_rows s e i) (left rules s (e + 1) next)
      → Follows rules s e i dead r

pub follows : (rules : Rules) (s : List ℕ) (e i dead : ℕ) (r : Turn) → r ≡ turn_of i dead (item_from rules e i (drop i s)) → Follows rules s e i dead r
follows rules s e i dead r t = go (item_from rules e i (drop i s)) refl (item_shaped rules s e i) t
  where
    at : (x : Item) → item_from rules e i (drop i s) ≡ x → i < length s → left rules s e i ≡ item_and e i x (behind rules s i)
    at x q h = unrolled rules s i e h ∙ ap (λ (y : Item). item_and e i y (behind rules s i)) q

    go : (x : Item) → item_from rules e i (drop i s) ≡ x → Shaped s e i x → r ≡ turn_of i dead x → Follows rules s e i dead r
    go _ q (Shaped.takes next h l) c =
        Follows.takes next c h l (at _ q (omega arith) ∙ ap (element_and (id_row s i) (param_rows s e i)) (skip_to rules s i (e + 1) next (omega arith) l))
    go _ q (Shaped.skips next h l) c = Follows.skips next c h l (at _ q (omega arith) ∙ skip_to rules s i e next h l)
    go _ q Shaped.ends c = Follows.ends c (end (dec_le (length s) i))
      where
        end : Dec (length s ≤ i) → left rules s e i ≡ end_at i
        end (yes p) = over rules s i e p
        end (no p) = at ended q (omega arith)

-- The rows of the list: no fewer bytes than elements, and no parameters without an element
pub record Ordered (i : ℕ) (rows : Rows) : Type 0 where
  pub few : i + length rows.elements ≤ rows.next
  pub bare : length rows.elements ≡ 0 → length rows.params ≡ 0

module _ (rules : Rules) (s : List ℕ) where
  ordered_by : (e i dead : ℕ) (r : Turn) → ((f j : ℕ) → i < j → Ordered j (left rules s f j)) → Follows rules s e i dead r → Ordered i (left rules s e i)
  ordered_by e i dead r ih (Follows.ends q f) = rw f (record { few = omega arith; bare = λ z. refl })
  ordered_by e i dead r ih (Follows.skips next q h l f) = let o = ih e next h in rw f (record { few = omega (arith, o.few); bare = o.bare })
  ordered_by e i dead r ih (Follows.takes next q h l f) =
      let o = ih (e + 1) next (omega arith) in
      rw f (record { few = omega (arith, o.few); bare = λ z. absurd (omega arith) })

  ordered_from : (m e i : ℕ) → length s ≤ i + m → Ordered i (left rules s e i)
  ordered_from zero e i h = rw (over rules s i e (omega arith)) (record { few = omega arith; bare = λ z. refl })
  ordered_from (suc m) e i h = ordered_by e i 0 _ (λ f j l. ordered_from m f j (omega arith)) (follows rules s e i 0 _ refl)

  pub ordered : (e i : ℕ) → Ordered i (left rules s e i)
  ordered e i = ordered_from (length s) e i (omega arith)

-- no list starts where no `[` stands
unopened_item : (rules : Rules) (s : List ℕ) (e i : ℕ) → is_at s i 91 ≡ false → item_from rules e i (drop i s) ≡ ended
unfolding open_from
unopened_item Rfc3164Rules s e i h = rw (item_is Rfc3164Rules s i e, h)
unopened_item Rfc5424Rules s e i h = rw (item_is Rfc5424Rules s i e, h, failed_5424 Rfc5424Rules s i refl, h)

pub unopened : (rules : Rules) (s : List ℕ) (e i : ℕ) → is_at s i 91 ≡ false → left rules s e i ≡ end_at i
unopened rules s e i h = go (dec_le (length s) i)
  where
    go : Dec (length s ≤ i) → left rules s e i ≡ end_at i
    go (yes p) = over rules s i e p
    go (no p) = unrolled rules s i e (omega arith) ∙ ap (λ (x : Item). item_and e i x (behind rules s i)) (unopened_item rules s e i h)
