-- Structured data, by the rules of either protocol: ids, names and values lie in the line, and element numbers rise from 0 to below the count.
use Rattle.std.specs.Prelude.{Option, Some, None}
use Prim.Native.Nat.{ℕ, zero, suc, ◌+◌, ◌-◌, ◌≤◌}
use mathlib.Core.Path.{◌≡◌, refl}
use mathlib.Core.List.{List, [], ◌∷◌}
use mathlib.Core.Bool.{◌&&◌}
use native.Mathlib.Omega.{arith}
use lib.Dec.{leb, eqb}
use lib.ListN.{length, drop, length-drop}
use Rattle.base.specs.Choose.{is_at}
use Rattle.base.specs.Runs.{run}
use Rattle.base.proofs.Parts.{at_below}
use Rattle.base.proofs.Runs.{run_le}
use Rattle.base.proofs.Tests.{both, by_if}
use Rattle.parsers.specs.Steps.{is_blank, is_inside}
use Rattle.structured_data.specs.Param.{param_at}
use Rattle.structured_data.specs.Element.{Params, Element, id_len, param_and, more_params, params_from, element_from}
use Rattle.structured_data.specs.Element.Element.{no_element, is_element}
use Rattle.structured_data.specs.Data.{Rows, Item, item_of, item_from, item_and, elements_from, Data, hyphen_at, data_from, rows_or}
use Rattle.structured_data.specs.Data.Item.{taken, skipped, ended}
use Rattle.structured_data.specs.declared.Param.{Param}
use Rattle.structured_data.specs.declared.Rules.{Rules}
use Rattle.structured_data.specs.declared.Rules.TheVariants.{Rfc3164Rules, Rfc5424Rules}
use Rattle.structured_data.proofs.Ids.{id_le}
use Rattle.structured_data.proofs.Params.{param_lies}
use Rattle.suits.proofs.Suited.{IdIn}
use Rattle.suited.proofs.Tests.{RowsOf, RowsIn, rows_none, rows_more}

-- all in a part `t` of the line, which stands at `at` or after
module _ (line : List ℕ) where
  -- the parameters of element `e`
  param_and_lem : (e at before : ℕ) (t : List ℕ) (more : ℕ → Params) → at + length t ≤ length line → ((len : ℕ) → RowsOf line e (more len).rows)
      → RowsOf line e (param_and e at before (param_at t) more).rows
  param_and_lem e at before t more h k = go (param_at t) refl
    where
      go : (p : Option Param) → p ≡ param_at t → RowsOf line e (param_and e at before p more).rows
      go None q = tt
      go (Some x) q =
          let l = param_lies t x.name x.value x.value_len x.len q in
          (record { from = omega arith; below = omega arith; name_in = omega (arith, l); value_in = omega (arith, l) }, k x.len)

  more_params_lem : (e k at : ℕ) (t : List ℕ) → at + length t ≤ length line → RowsOf line e (more_params e k at t).rows
  unfolding more_params
  more_params_lem e k at [] h = tt
  more_params_lem e (suc k) at (b ∷ t) h = more_params_lem e k (at + 1) t (omega arith)
  more_params_lem e zero at (b ∷ t) h =
      by_if (λ (ps : Params). RowsOf line e ps.rows) (eqb b 32) _ _
      (λ q. param_and_lem e (at + 1) at t (λ len. more_params e len (at + 1) t) (omega arith) (λ len. more_params_lem e len (at + 1) t (omega arith)))
      (λ q. tt)

  -- element `e`
  abbrev Taken : ℕ → List ℕ → List (List ℕ) → Type 0
  Taken e row params = IdIn line row × RowsOf line e params

  abbrev ElementIn : ℕ → Element → Type 0
  ElementIn e no_element = Unit {0}
  ElementIn e (is_element row params next) = Taken e row params

  element_in_lem : (e at : ℕ) (t : List ℕ) → at + length t ≤ length line → ElementIn e (element_from e at t)
  unfolding element_from params_from
  element_in_lem e at t h =
      let n = id_len (drop 1 t) in
      let a = n + 1 + run is_blank (drop (n + 1) t) in
      by_if (ElementIn e) (is_at t 0 91 && leb 1 n && is_at t ((params_from e (at + a) (drop a t)).next - at) 93) _ _
      (λ q.
      let some = at_below t 0 90 (both (is_at t 0 91) (leb 1 n) (both _ _ q).0).0 in
      let id : n + 1 ≤ length t = omega (arith, id_le (drop 1 t), length-drop 1 t) in
      let blanks : a ≤ length t = omega (arith, run_le is_blank (drop (n + 1) t), length-drop (n + 1) t) in
      let room : at + a + length (drop a t) ≤ length line = omega (arith, length-drop a t) in
      (omega arith, param_and_lem e (at + a) (at + a) (drop a t) _ room (λ len. more_params_lem e len (at + a) (drop a t) room)))
      (λ q. tt)

  -- what stands at an element's position
  abbrev ItemIn : ℕ → Item → Type 0
  ItemIn e (taken row params next) = Taken e row params
  ItemIn e (skipped next) = Unit {0}
  ItemIn e ended = Unit {0}

  item_in : (rules : Rules) (e at : ℕ) (t : List ℕ) (x : Element) → ElementIn e x → ItemIn e (item_of rules at t x)
  item_in Rfc5424Rules e at t (is_element row params next) h = h
  item_in Rfc5424Rules e at t no_element h = by_if (ItemIn e) (is_at t 0 91 && is_at t (run is_inside t) 93) _ _ (λ q. tt) (λ q. tt)
  item_in Rfc3164Rules e at t (is_element row params next) h = by_if (ItemIn e) (leb 1 (length params)) _ _ (λ q. h) (λ q. tt)
  item_in Rfc3164Rules e at t no_element h = tt

  -- rows of which the first element has the number `e`
  abbrev Suit : ℕ → Rows → Type 0
  Suit e rows = RowsIn line e rows.elements rows.params

  item_and_lem : (e at : ℕ) (i : Item) (more : ℕ → ℕ → Rows) → ItemIn e i → ((f next : ℕ) → Suit f (more f next)) → Suit e (item_and e at i more)
  item_and_lem e at (taken row params next) more h k = rows_more row params _ _ h.0 h.1 (k (e + 1) next)
  item_and_lem e at (skipped next) more h k = k e next
  item_and_lem e at ended more h k = rows_none

  elements_in_lem : (rules : Rules) (e k at : ℕ) (t : List ℕ) → at + length t ≤ length line → Suit e (elements_from rules e k at t)
  unfolding elements_from item_from
  elements_in_lem rules e k at [] h = rows_none
  elements_in_lem rules e (suc k) at (b ∷ t) h = elements_in_lem rules e k (at + 1) t (omega arith)
  elements_in_lem rules e zero at (b ∷ t) h =
      item_and_lem e at (item_from rules e at (b ∷ t)) _ (item_in rules e at (b ∷ t) _ (element_in_lem e at (b ∷ t) h))
      (λ f next. elements_in_lem rules f (next - at - 1) (at + 1) t (omega arith))

  -- in a text that is no longer than the line
  pub data_in : (rules : Rules) (s : List ℕ) (at : ℕ) → at ≤ length s → length s ≤ length line → Suit 0 (rows_or at (data_from rules s at))
  unfolding data_from
  data_in rules s at h l =
      by_if (λ (d : Data). Suit 0 (rows_or at d)) (hyphen_at rules s at) _ _ (λ q. rows_none) (λ q.
      by_if (λ (d : Data). Suit 0 (rows_or at d)) (eqb (elements_from rules 0 0 at (drop at s)).next at) _ _ (λ q. rows_none)
      (λ q. elements_in_lem rules 0 0 at (drop at s) (omega (arith, length-drop at s))))
