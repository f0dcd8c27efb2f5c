-- Structured data of a loose reading: how many bytes of the line it takes at least, and how far it grows in print.
use Rattle.std.specs.Prelude.{Option, Some, None}
use Prim.Native.Nat.{ℕ, zero, suc, ◌+◌, ◌-◌, ◌*◌, ◌≤◌}
use mathlib.Core.Path.{◌≡◌}
use mathlib.Core.List.{List, [], ◌∷◌, ◌++◌}
use mathlib.Core.Bool.{false, ◌&&◌}
use native.Mathlib.Omega.{arith}
use lib.Dec.{leb, eqb}
use lib.ListN.{length, drop, length-append, length-drop}
use borrow.Author.Tests.{leb-true}
use Rattle.base.specs.Choose.{is_at}
use Rattle.base.specs.Runs.{run}
use Rattle.base.proofs.Parts.{at_below}
use Rattle.base.proofs.Tests.{both, by_if}
use Rattle.parsers.specs.Steps.{is_blank, is_inside}
use Rattle.structured_data.specs.Param.{is_named, quoted_len, param_at}
use Rattle.structured_data.specs.Element.{Params, Element, id_len, param_and, more_params, params_from, element_from}
use Rattle.structured_data.specs.Element.Element.{no_element, is_element}
use Rattle.structured_data.specs.Data.{Rows, Item, item_of, item_from, item_and, elements_from, Data, hyphen_at, data_from, rows_or}
use Rattle.structured_data.specs.Data.Item.{taken, skipped, ended}
use Rattle.structured_data.specs.declared.Param.{Param}
use Rattle.structured_data.specs.declared.Rules.{Rules}
use Rattle.structured_data.specs.declared.Rules.TheVariants.{Rfc3164Rules, Rfc5424Rules}
use Rattle.structured_data.proofs.Hyphen.{hyphen_there}
use Rattle.message.specs.Rooms.{element_size, param_size, total}

-- the rows of two tables, one after the other
pub total_append : (size : List ℕ → ℕ) (a b : List (List ℕ)) → total size (a ++ b) ≡ total size a + total size b
unfolding total
total_append size [] b = omega arith
total_append size (row ∷ a) b = omega (arith, total_append size a b)

-- a parameter at the front of `n` bytes: name, `=` and two quotes at least, and the name is not empty
abbrev ParamTakes : ℕ → Option Param → Type 0
ParamTakes t None = Unit {0}
ParamTakes t (Some x) = (1 ≤ x.name) × (x.name + x.value_len + 3 ≤ x.len) × (x.len ≤ t)

param_takes : (t : List ℕ) → ParamTakes (length t) (param_at t)
unfolding param_at
param_takes t =
    let n = run is_named t in
    let quote = n + 1 + run is_blank (drop (n + 1) t) in
    let m = quoted_len false (drop (quote + 1) t) in
    by_if (ParamTakes (length t)) (leb 1 n && is_at t n 61 && is_at t quote 34 && is_at t (quote + 1 + m) 34) _ _
    (λ q.
    let closes = both (leb 1 n && is_at t n 61 && is_at t quote 34) (is_at t (quote + 1 + m) 34) q in
    let opens = both (leb 1 n && is_at t n 61) (is_at t quote 34) closes.0 in
    let named = both (leb 1 n) (is_at t n 61) opens.0 in
    (leb-true 1 n named.0, omega arith, omega (arith, at_below t (quote + 1 + m) 33 closes.1)))
    (λ q. tt)

-- Parameters that were read from `from` on, in a text that ends at `end`: 5 bytes at least for each, and in print no more than were read, but for `grown`.
record ParamsTake (from end grown : ℕ) (ps : Params) : Type 0 where
  many : from + 5 * length ps.rows ≤ ps.next + grown
  small : from + total param_size ps.rows ≤ ps.next + grown
  onward : from + 4 * grown ≤ ps.next
  inside : ps.next ≤ end

none_take : (from at end : ℕ) → from ≤ at → at ≤ end → ParamsTake from end 0 (record { rows = []; next = at })
unfolding total
none_take from at end h l = record { many = omega arith; small = omega arith; onward = omega arith; inside = l }

-- one, and those that were read from `after` on
one_takes : (e start value n m len : ℕ) (ps : Params) (from after last end grown : ℕ) → (1 ≤ n) × (n + m + 3 ≤ len) → grown ≤ 1 → from + len ≤ after → from + len + 1 ≤ after + grown → last ≤ end
    → ParamsTake after last 0 ps → ParamsTake from end grown (record { rows = (e ∷ start ∷ n ∷ value ∷ m ∷ []) ∷ ps.rows; next = ps.next })
unfolding total param_size
one_takes e start value n m len ps from after last end grown h g a b c t =
    record { many = omega (arith, t.many); small = omega (arith, t.small); onward = omega (arith, t.onward); inside = omega (arith, t.inside) }

more_params_lem : (e k at : ℕ) (t : List ℕ) → k ≤ length t → ParamsTake (at + k) (at + length t) 0 (more_params e k at t)
unfolding more_params
more_params_lem e k at [] h = none_take (at + k) at _ (omega arith) (omega arith)
more_params_lem e (suc k) at (b ∷ t) h =
    let q : at + suc k ≡ at + 1 + k = omega arith in
    let l : at + suc (length t) ≡ at + 1 + length t = omega arith in
    rw (q, l) (more_params_lem e k (at + 1) t (omega arith))
more_params_lem e zero at (b ∷ t) h =
    by_if (ParamsTake (at + 0) (at + suc (length t)) 0) (eqb b 32) _ _
    (λ q. here (param_at t) (param_takes t) (λ len l. more_params_lem e len (at + 1) t l))
    (λ q. none_take (at + 0) at _ (omega arith) (omega arith))
  where
    here : (x : Option Param) → ParamTakes (length t) x → ((len : ℕ) → len ≤ length t → ParamsTake (at + 1 + len) (at + 1 + length t) 0 (more_params e len (at + 1) t))
        → ParamsTake (at + 0) (at + suc (length t)) 0 (param_and e (at + 1) at x (λ len. more_params e len (at + 1) t))
    here None h k = none_take (at + 0) at _ (omega arith) (omega arith)
    here (Some x) h k =
        one_takes e (at + 1) (at + 1 + x.value) x.name x.value_len x.len (more_params e x.len (at + 1) t) (at + 0) (at + 1 + x.len) (at + 1 + length t) (at + suc (length t)) 0
        (h.0, h.1) (omega arith) (omega arith) (omega arith) (omega arith) (k x.len h.2)

-- the first of them may stand where its element's id ends, with no blank before it
record First (from end : ℕ) (ps : Params) : Type 0 where
  grown : ℕ
  once : grown ≤ 1
  take : ParamsTake from end grown ps

params_from_lem : (e at : ℕ) (t : List ℕ) → First at (at + length t) (params_from e at t)
unfolding params_from
params_from_lem e at t = here (param_at t) (param_takes t)
  where
    here : (x : Option Param) → ParamTakes (length t) x → First at (at + length t) (param_and e at at x (λ len. more_params e len at t))
    here None h = record { grown = 0; once = omega arith; take = none_take at at _ (omega arith) (omega arith) }
    here (Some x) h =
        record {
          grown = 1;
          once = omega arith;
          take =
              one_takes e at (at + x.value) x.name x.value_len x.len (more_params e x.len at t) at (at + x.len) (at + length t) (at + length t) 1
              (h.0, h.1) (omega arith) (omega arith) (omega arith) (omega arith) (more_params_lem e x.len at t h.2);
        }

-- What was read from `from` to `next`, in a text that ends at `end`: `e` elements and `p` parameters, of `size` bytes in print. An element takes 3 bytes at least,
-- a parameter 5, and an element grows by a byte at most, which takes 7 then.
pub record Takes (from end e p size next : ℕ) : Type 0 where
  pub elements_many : from + 3 * e ≤ next
  pub params_many : from + 5 * p ≤ next
  pub small : 8 * from + 7 * size ≤ 8 * next
  pub inside : next ≤ end

abbrev ElementTakes : ℕ → ℕ → Element → Type 0
ElementTakes at end no_element = Unit {0}
ElementTakes at end (is_element row params next) = Takes at end 1 (length params) (element_size row + total param_size params) next

element_takes : (e at : ℕ) (t : List ℕ) → ElementTakes at (at + length t) (element_from e at t)
unfolding element_from element_size
element_takes e at t =
    let n = id_len (drop 1 t) in
    let a = n + 1 + run is_blank (drop (n + 1) t) in
    let ps = params_from e (at + a) (drop a t) in
    by_if (ElementTakes at (at + length t)) (is_at t 0 91 && leb 1 n && is_at t (ps.next - at) 93) _ _
    (λ q.
    let closes = both (is_at t 0 91 && leb 1 n) (is_at t (ps.next - at) 93) q in
    let id = leb-true 1 n (both (is_at t 0 91) (leb 1 n) closes.0).1 in
    let last = at_below t (ps.next - at) 92 closes.1 in
    let f = params_from_lem e (at + a) (drop a t) in
    let p = f.take in
    record {
      elements_many = omega (arith, f.once, p.onward);
      params_many = omega (arith, f.once, p.many);
      small = omega (arith, f.once, p.small, p.onward);
      inside = omega arith;
    })
    (λ q. tt)

abbrev ItemTakes : ℕ → ℕ → Item → Type 0
ItemTakes at end (taken row params next) = Takes at end 1 (length params) (element_size row + total param_size params) next
ItemTakes at end (skipped next) = (at + 1 ≤ next) × (next ≤ end)
ItemTakes at end ended = Unit {0}

item_takes : (rules : Rules) (at : ℕ) (t : List ℕ) (x : Element) → ElementTakes at (at + length t) x → ItemTakes at (at + length t) (item_of rules at t x)
item_takes Rfc5424Rules at t (is_element row params next) h = h
item_takes Rfc5424Rules at t no_element h =
    by_if (ItemTakes at (at + length t)) (is_at t 0 91 && is_at t (run is_inside t) 93) _ _
    (λ q. (omega arith, omega (arith, at_below t (run is_inside t) 92 (both (is_at t 0 91) _ q).1))) (λ q. tt)
item_takes Rfc3164Rules at t (is_element row params next) h = by_if (ItemTakes at (at + length t)) (leb 1 (length params)) _ _ (λ q. h) (λ q. tt)
item_takes Rfc3164Rules at t no_element h = tt

abbrev RowsTake : ℕ → ℕ → Rows → Type 0
RowsTake from end rows =
    Takes from end (length rows.elements) (length rows.params) (total element_size rows.elements + total param_size rows.params) rows.next

none_takes : (from at end : ℕ) → from ≤ at → at ≤ end → RowsTake from end (record { elements = []; params = []; next = at })
unfolding total
none_takes from at end h l = record { elements_many = omega arith; params_many = omega arith; small = omega arith; inside = l }

-- what stands at `at`, and what comes from the position after it on
item_and_lem : (e at end : ℕ) (i : Item) (more : ℕ → ℕ → Rows) → at ≤ end → ItemTakes at end i → ((f next : ℕ) → at + 1 ≤ next → next ≤ end → RowsTake next end (more f next))
    → RowsTake at end (item_and e at i more)
unfolding total
item_and_lem e at end (taken row params next) more l h k =
    let r = k (e + 1) next (omega (arith, h.elements_many)) h.inside in
    record {
      elements_many = omega (arith, h.elements_many, r.elements_many);
      params_many = simp length-append (omega (arith, h.params_many, r.params_many));
      small = rw (total_append param_size params (more (e + 1) next).params) (omega (arith, h.small, r.small));
      inside = r.inside;
    }
item_and_lem e at end (skipped next) more l h k =
    let r = k e next h.0 h.1 in
    record { elements_many = omega (arith, r.elements_many); params_many = omega (arith, r.params_many); small = omega (arith, r.small); inside = r.inside }
item_and_lem e at end ended more l h k = none_takes at at end (omega arith) l

elements_take : (rules : Rules) (e k at : ℕ) (t : List ℕ) → k ≤ length t → RowsTake (at + k) (at + length t) (elements_from rules e k at t)
unfolding elements_from item_from
elements_take rules e k at [] h = none_takes (at + k) at _ (omega arith) (omega arith)
elements_take rules e (suc k) at (b ∷ t) h =
    let q : at + suc k ≡ at + 1 + k = omega arith in
    let l : at + suc (length t) ≡ at + 1 + length t = omega arith in
    rw (q, l) (elements_take rules e k (at + 1) t (omega arith))
elements_take rules e zero at (b ∷ t) h =
    let z : at + 0 ≡ at = omega arith in
    rw z
    (item_and_lem e at (at + suc (length t)) (item_from rules e at (b ∷ t)) _ (omega arith) (item_takes rules at (b ∷ t) _ (element_takes e at (b ∷ t)))
    (λ f next a b.
    let q : at + 1 + (next - at - 1) ≡ next = omega arith in
    let l : at + 1 + length t ≡ at + suc (length t) = omega arith in
    rw (q, l) at (elements_take rules f (next - at - 1) (at + 1) t (omega arith))))

abbrev DataTakes : ℕ → ℕ → Data → Type 0
DataTakes at end d = RowsTake at end (rows_or at d)

-- all the structured data at a position of the text
pub data_takes : (rules : Rules) (s : List ℕ) (at : ℕ) → at ≤ length s → DataTakes at (length s) (data_from rules s at)
unfolding data_from
data_takes rules s at h =
    let end : at + length (drop at s) ≡ length s = omega (arith, length-drop at s) in
    let z : at + 0 ≡ at = omega arith in
    by_if (DataTakes at (length s)) (hyphen_at rules s at) _ _
    (λ q. none_takes at (at + 1) (length s) (omega arith) (omega (arith, at_below s at 44 (hyphen_there rules s at q)))) λ q.
    by_if (DataTakes at (length s)) (eqb (elements_from rules 0 0 at (drop at s)).next at) _ _ (λ q. none_takes at at (length s) (omega arith) h)
    (λ q. rw (z, end) at (elements_take rules 0 0 at (drop at s) (omega arith)))
