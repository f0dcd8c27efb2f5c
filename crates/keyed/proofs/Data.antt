-- The rows of structured data are those that the walk over its elements' ids finds; and what they take.
use Prim.Native.Nat.{ℕ, zero, suc, ◌+◌, ◌-◌, ◌*◌, ◌≤◌}
use mathlib.Core.Path.{◌≡◌, refl, sym, ap, ap₂, ◌∙◌, subst}
use mathlib.Core.Bool.{◌&&◌}
use mathlib.Core.List.{List, [], ◌∷◌, ◌++◌}
use native.Mathlib.Decide.{dec_le}
use native.Mathlib.Omega.{arith}
use lib.Dec.{leb, eqb}
use lib.ListN.{length, get_or, drop, drop_of_length-le}
use lib.Seq.{drop-drop}
use Rattle.base.specs.Choose.{is_at}
use Rattle.base.specs.Runs.{run}
use Rattle.base.proofs.Tests.{by_if}
use Rattle.parsers.specs.Steps.{is_blank, blanks_from}
use Rattle.structured_data.specs.Element.{Element, id_len, params_from, element_from}
use Rattle.structured_data.specs.Element.Element.{no_element, is_element}
use Rattle.structured_data.specs.Data.{Rows, Item, item_of, item_from, item_and, elements_from, Data, hyphen_at, data_from, rows_or}
use Rattle.structured_data.specs.Data.Item.{taken, skipped, ended}
use Rattle.structured_data.specs.declared.Rules.{Rules}
use Rattle.structured_data.specs.declared.Rules.TheVariants.{Rfc3164Rules, Rfc5424Rules}
use Rattle.message.specs.Rooms.{param_size, total}
use Rattle.bounds.proofs.Data.{data_takes}
use Rattle.keyed.specs.Notes.{rows_at, rows_from}

-- ---- the rows

module _ (s : List ℕ) where
  -- the rows of an element are those from behind its id on
  abbrev FromId : ℕ → List ℕ → List (List ℕ) → Type 0
  FromId e row params = params ≡ rows_at s e (blanks_from s (get_or row 0 0 + get_or row 1 0))

  abbrev ElementRows : ℕ → Element → Type 0
  ElementRows e no_element = Unit {0}
  ElementRows e (is_element row params next) = FromId e row params

  element_rows_lem : (e at : ℕ) (t : List ℕ) → t ≡ drop at s → ElementRows e (element_from e at t)
  unfolding element_from
  element_rows_lem e at t q =
      let n = id_len (drop 1 t) in
      let a = n + 1 + run is_blank (drop (n + 1) t) in
      let ps = params_from e (at + a) (drop a t) in
      by_if (ElementRows e) (is_at t 0 91 && leb 1 n && is_at t (ps.next - at) 93) _ _
      (λ h.
      let i : at + (n + 1) ≡ at + 1 + n = omega arith in
      let d : drop (n + 1) t ≡ drop (at + 1 + n) s = ap (drop (n + 1)) q ∙ drop-drop (n + 1) at s ∙ ap (λ (k : ℕ). drop k s) i in
      let from : at + a ≡ blanks_from s (at + 1 + n) = omega (arith, ap (run is_blank) d) in
      ap₂ (λ (f : ℕ) (u : List ℕ). (params_from e f u).rows) from (ap (drop a) q ∙ drop-drop a at s ∙ ap (λ (k : ℕ). drop k s) from))
      (λ h. tt)

  abbrev ItemRows : ℕ → Item → Type 0
  ItemRows e (taken row params next) = FromId e row params
  ItemRows e (skipped next) = Unit {0}
  ItemRows e ended = Unit {0}

  item_rows : (rules : Rules) (e at : ℕ) (t : List ℕ) (x : Element) → ElementRows e x → ItemRows e (item_of rules at t x)
  item_rows Rfc5424Rules e at t (is_element row params next) h = h
  item_rows Rfc5424Rules e at t no_element h = by_if (ItemRows e) (is_at t 0 91 && is_at t _ 93) _ _ (λ q. tt) (λ q. tt)
  item_rows Rfc3164Rules e at t (is_element row params next) h = by_if (ItemRows e) (leb 1 (length params)) _ _ (λ q. h) (λ q. tt)
  item_rows Rfc3164Rules e at t no_element h = tt

  abbrev Walked : ℕ → Rows → Type 0
  Walked e rows = rows.params ≡ rows_from s e rows.elements

  item_and_lem : (e at : ℕ) (i : Item) (more : ℕ → ℕ → Rows) → ItemRows e i → ((f next : ℕ) → Walked f (more f next)) → Walked e (item_and e at i more)
  unfolding rows_from
  item_and_lem e at (taken row params next) more h k = ap₂ ◌++◌ h (k (e + 1) next)
  item_and_lem e at (skipped next) more h k = k e next
  item_and_lem e at ended more h k = refl

  elements_walked : (rules : Rules) (e k at : ℕ) (t : List ℕ) → t ≡ drop at s → Walked e (elements_from rules e k at t)
  unfolding elements_from item_from rows_from
  elements_walked rules e k at [] q = refl
  elements_walked rules e (suc k) at (b ∷ t) q = elements_walked rules e k (at + 1) t (ap (drop 1) q ∙ drop-drop 1 at s)
  elements_walked rules e zero at (b ∷ t) q =
      item_and_lem e at (item_from rules e at (b ∷ t)) (λ f next. elements_from rules f (next - at - 1) (at + 1) t) (item_rows rules e at (b ∷ t) _ (element_rows_lem e at (b ∷ t) q))
      (λ f next. elements_walked rules f (next - at - 1) (at + 1) t (ap (drop 1) q ∙ drop-drop 1 at s))

  -- all the structured data at a position
  pub data_walked : (rules : Rules) (at : ℕ) → Walked 0 (rows_or at (data_from rules s at))
  unfolding data_from rows_from
  data_walked rules at =
      by_if (λ (d : Data). Walked 0 (rows_or at d)) (hyphen_at rules s at) _ _ (λ q. refl) λ q.
      by_if (λ (d : Data). Walked 0 (rows_or at d)) (eqb (elements_from rules 0 0 at (drop at s)).next at) _ _ (λ q. refl)
      (λ q. elements_walked rules 0 0 at (drop at s) refl)

-- ---- what they take

pub record Few (rows : List (List ℕ)) (bytes : ℕ) : Type 0 where
  pub size : 7 * total param_size rows ≤ 8 * bytes
  pub count : 5 * length rows ≤ bytes

few_none : (n : ℕ) → Few [] n
unfolding total
few_none n = record { size = omega arith; count = omega arith }

-- past the end there are none
past_none : (rules : Rules) (s : List ℕ) (at : ℕ) → length s ≤ at → (rows_or at (data_from rules s at)).params ≡ []
unfolding data_from elements_from
past_none rules s at h =
    by_if (λ (d : Data). (rows_or at d).params ≡ []) (hyphen_at rules s at) _ _ (λ q. refl) λ q.
    by_if (λ (d : Data). (rows_or at d).params ≡ []) (eqb (elements_from rules 0 0 at (drop at s)).next at) _ _ (λ q. refl)
    (λ q. ap (λ (t : List ℕ). (elements_from rules 0 0 at t).params) (drop_of_length-le s h))

pub data_few : (rules : Rules) (s : List ℕ) (at : ℕ) → Few (rows_or at (data_from rules s at)).params (length s)
data_few rules s at = go (dec_le at (length s))
  where
    go : Dec (at ≤ length s) → Few (rows_or at (data_from rules s at)).params (length s)
    go (yes h) = let t = data_takes rules s at h in record { size = omega (arith, t.small, t.inside); count = omega (arith, t.params_many, t.inside) }
    go (no h) = subst (λ (l : List (List ℕ)). Few l (length s)) (sym (past_none rules s at (omega arith))) (few_none (length s))
