-- How many elements and parameters a line of at most 8,192 bytes has: few enough for a word. (The bounds are as wide as the proofs are short.)
use Rattle.std.specs.Prelude.{Option, Some, None}
use Prim.Native.Nat.{ℕ, zero, suc, ◌+◌, ◌-◌, ◌*◌, ◌≤◌}
use mathlib.Core.Bool.{◌&&◌}
use mathlib.Core.List.{List, [], ◌∷◌}
use native.Mathlib.Omega.{arith}
use lib.Dec.{eqb, leb}
use lib.ListN.{length, drop, length-append, length-drop}
use Rattle.base.specs.Choose.{is_at}
use Rattle.base.specs.Runs.{run}
use Rattle.base.proofs.Tests.{by_if}
use Rattle.record.specs.Limits.{line_limit}
use Rattle.parsers.specs.Steps.{is_blank, is_inside}
use Rattle.structured_data.specs.Param.{param_at}
use Rattle.structured_data.specs.Element.{Params, Element, id_len, param_and, more_params, params_from, element_from}
use Rattle.structured_data.specs.Element.Element.{no_element, is_element}
use Rattle.structured_data.specs.Data.{Rows, end_at, Item, item_of, item_and, item_from, elements_from, Data, hyphen_at, data_from, rows_or}
use Rattle.structured_data.specs.Data.Item.{taken, skipped, ended}
use Rattle.structured_data.specs.declared.Param.{Param}
use Rattle.structured_data.specs.declared.Rules.{Rules}
use Rattle.structured_data.specs.declared.Rules.TheVariants.{Rfc3164Rules, Rfc5424Rules}
use Rattle.grammar.specs.Line as grammar
use Rattle.grammar.specs.Line.{Each, each_then, param_then, element_then, data_then, ParamOk, ElementOk}
use Rattle.grammar.specs.Reading.{param_count}
use Rattle.grammar.proofs.Readers.{text_length}
use Rattle.grammar.proofs.Data.{param_reads, element_reads}
use Rattle.strict_data.proofs.Filling.{params_length, param_length}

-- ---- the loose reader

-- the parameters of an element
param_few : (e at before n : ℕ) (x : Option Param) (more : ℕ → Params) → ((len : ℕ) → length (more len).rows ≤ n) → length (param_and e at before x more).rows ≤ n + 1
param_few e at before n None more h = omega arith
param_few e at before n (Some x) more h = omega (arith, h x.len)

more_few : (e k at : ℕ) (t : List ℕ) → length (more_params e k at t).rows ≤ length t
unfolding more_params
more_few e k at [] = omega arith
more_few e (suc k) at (b ∷ t) = omega (arith, more_few e k (at + 1) t)
more_few e zero at (b ∷ t) =
    by_if (λ (ps : Params). length ps.rows ≤ length (b ∷ t)) (eqb b 32) _ _
    (λ q. omega (arith, param_few e (at + 1) at (length t) (param_at t) (λ len. more_params e len (at + 1) t) (λ len. more_few e len (at + 1) t)))
    (λ q. omega arith)

-- an element, and what stands at an element's position
abbrev ElementFew : Element → Type 0
ElementFew no_element = Unit {0}
ElementFew (is_element row params next) = length params ≤ 8193

element_few : (e at : ℕ) (t : List ℕ) → length t ≤ line_limit → ElementFew (element_from e at t)
unfolding element_from params_from
element_few e at t l =
    let n = id_len (drop 1 t) in
    let a = n + 1 + run is_blank (drop (n + 1) t) in
    let m = param_few e (at + a) (at + a) (length (drop a t)) (param_at (drop a t)) (λ len. more_params e len (at + a) (drop a t)) (λ len. more_few e len (at + a) (drop a t)) in
    by_if ElementFew (is_at t 0 91 && leb 1 n && is_at t ((params_from e (at + a) (drop a t)).next - at) 93) _ _
    (λ q. omega (arith, m, length-drop a t))
    (λ q. tt)

abbrev ItemFew : Item → Type 0
ItemFew (taken row params next) = length params ≤ 8193
ItemFew (skipped next) = Unit {0}
ItemFew ended = Unit {0}

item_few : (rules : Rules) (at : ℕ) (t : List ℕ) (x : Element) → ElementFew x → ItemFew (item_of rules at t x)
item_few Rfc5424Rules at t (is_element row params next) h = h
item_few Rfc5424Rules at t no_element h = by_if ItemFew (is_at t 0 91 && is_at t (run is_inside t) 93) _ _ (λ q. tt) (λ q. tt)
item_few Rfc3164Rules at t (is_element row params next) h = by_if ItemFew (leb 1 (length params)) _ _ (λ q. h) (λ q. tt)
item_few Rfc3164Rules at t no_element h = tt

-- the rows of `n` bytes
pub record Few (n : ℕ) (rows : Rows) : Type 0 where
  pub elements_to : length rows.elements ≤ n
  pub params_to : length rows.params ≤ n * 8193

and_few : (e at n : ℕ) (i : Item) (more : ℕ → ℕ → Rows) → ItemFew i → ((f next : ℕ) → Few n (more f next)) → Few (n + 1) (item_and e at i more)
and_few e at n (taken row params next) more h k =
    let m = k (e + 1) next in
    record { elements_to = omega (arith, m.elements_to); params_to = omega (arith, m.params_to, length-append params (more (e + 1) next).params) }
and_few e at n (skipped next) more h k =
    let m = k e next in
    record { elements_to = omega (arith, m.elements_to); params_to = omega (arith, m.params_to) }
and_few e at n ended more h k = record { elements_to = omega arith; params_to = omega arith }

elements_few : (rules : Rules) (e k at : ℕ) (t : List ℕ) → length t ≤ line_limit → Few (length t) (elements_from rules e k at t)
unfolding elements_from item_from
elements_few rules e k at [] l = record { elements_to = omega arith; params_to = omega arith }
elements_few rules e (suc k) at (b ∷ t) l =
    let m = elements_few rules e k (at + 1) t (omega arith) in
    record { elements_to = omega (arith, m.elements_to); params_to = omega (arith, m.params_to) }
elements_few rules e zero at (b ∷ t) l =
    let m = and_few e at (length t) (item_from rules e at (b ∷ t)) (λ f next. elements_from rules f (next - at - 1) (at + 1) t)
    (item_few rules at (b ∷ t) (element_from e at (b ∷ t)) (element_few e at (b ∷ t) l)) (λ f next. elements_few rules f (next - at - 1) (at + 1) t (omega arith)) in
    record { elements_to = omega (arith, m.elements_to); params_to = omega (arith, m.params_to) }

pub none_few : (at : ℕ) → Few line_limit (end_at at)
none_few at = record { elements_to = omega arith; params_to = omega arith }

pub data_few : (rules : Rules) (s : List ℕ) (at : ℕ) → length s ≤ line_limit → Few line_limit (rows_or at (data_from rules s at))
unfolding data_from
data_few rules s at l =
    let m = elements_few rules 0 0 at (drop at s) (omega (arith, length-drop at s)) in
    by_if (λ (d : Data). Few line_limit (rows_or at d)) (hyphen_at rules s at) _ _ (λ q. none_few (at + 1)) (λ q.
    by_if (λ (d : Data). Few line_limit (rows_or at d)) (eqb (elements_from rules 0 0 at (drop at s)).next at) _ _ (λ q. none_few at)
    (λ q. record { elements_to = omega (arith, m.elements_to, length-drop at s); params_to = omega (arith, m.params_to, length-drop at s) }))

-- ---- the strict reader

params_few : (ps : List grammar.Param) → Each ParamOk ps → length ps ≤ length (each_then param_then ps [])
params_few [] h = omega arith
params_few (p ∷ ps) h = omega (arith, params_few ps h.1, param_length p, text_length param_reads p (each_then param_then ps []) h.0)

all_few : (es : List grammar.Element) → Each ElementOk es → length es + param_count es ≤ length (each_then element_then es [])
all_few [] h = omega arith
all_few (e ∷ es) h =
    let far = text_length element_reads e (each_then element_then es []) h.0 in
    let id = length-append e.id (each_then param_then e.params (93 ∷ [])) in
    let params = params_length e.params (93 ∷ []) h.0.params_ok in
    omega (arith, all_few es h.1, params_few e.params h.0.params_ok)

pub division_few : (es : List grammar.Element) → Each ElementOk es → length es + param_count es ≤ length (data_then es [])
division_few [] h = omega arith
division_few (e ∷ es) h = all_few (e ∷ es) h
