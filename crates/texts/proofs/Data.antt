-- Structured data: ids, names and values are whole characters, and what is taken ends at a cut.
use Rattle.std.specs.Prelude.{Option, Some, None}
use Prim.Native.Nat.{ℕ, zero, suc, ◌+◌, ◌-◌, ◌<◌}
use mathlib.Core.Path.{◌≡◌, refl, sym, ap, ◌∙◌}
use mathlib.Core.List.{List, [], ◌∷◌, ◌++◌}
use mathlib.Core.Bool.{true, false, ◌&&◌}
use native.Mathlib.Omega.{arith}
use lib.Dec.{leb, eqb}
use lib.ListN.{length, get_or, drop, length-drop}
use lib.Seq.{drop-drop}
use Rattle.base.specs.Choose.{is_at}
use Rattle.base.specs.Runs.{run}
use Rattle.base.proofs.Tests.{both, by_if}
use Rattle.utf8.specs.Lead.{is_utf8}
use Rattle.grammar.specs.Line.{Each}
use Rattle.parsers.specs.Steps.{is_blank, blanks_from}
use Rattle.structured_data.specs.Param.{is_named, quoted_len, param_at}
use Rattle.structured_data.specs.Element.{Params, Element, id_len, param_and, more_params, params_from, element_from}
use Rattle.structured_data.specs.Element.Element.{no_element, is_element}
use Rattle.structured_data.specs.Data.{Rows, Item, item_of, item_from, item_and, elements_from, Data, hyphen_at, data_from, rows_or}
use Rattle.structured_data.specs.Data.Item.{taken, skipped, ended}
use Rattle.structured_data.specs.Data.Data.{no_data, is_data}
use Rattle.parsers.specs.Steps.{is_inside}
use Rattle.structured_data.specs.Steps.{open_from}
use Rattle.structured_data.specs.declared.Param.{Param}
use Rattle.structured_data.specs.declared.Rules.{Rules}
use Rattle.structured_data.specs.declared.Rules.TheVariants.{Rfc3164Rules, Rfc5424Rules}
use Rattle.structured_data.proofs.Ids.{id_le}
use Rattle.structured_data.proofs.Params.{at_part}
use Rattle.structured_data.proofs.Walks.{params_reach}
use Rattle.structured_data.proofs.Elements.{element_of, element_is}
use Rattle.structured_data.proofs.Hyphen.{hyphen_there}
use Rattle.structured_data.proofs.ByCharacters.{id_cuts}
use Rattle.texts.proofs.Cuts.{Cut, Between, walk_on, blanks_on, after}
use Rattle.texts.proofs.Steps.{before_part, after_part}

-- what the rows place
abbrev pub IdCut : List ℕ → List ℕ → Type 0
IdCut s row = Between s (get_or row 0 0) (get_or row 1 0)

abbrev pub ParamCut : List ℕ → List ℕ → Type 0
ParamCut s row = Between s (get_or row 1 0) (get_or row 2 0) × Between s (get_or row 3 0) (get_or row 4 0)

pub record RowsCut (s : List ℕ) (rows : Rows) : Type 0 where
  pub ids : Each (IdCut s) rows.elements
  pub params : Each (ParamCut s) rows.params
  pub to : Cut s rows.next

-- an element that is taken at `at`
record Taken (s : List ℕ) (at : ℕ) (row : List ℕ) (params : List (List ℕ)) (next : ℕ) : Type 0 where
  id : IdCut s row
  its : Each (ParamCut s) params
  ends : Cut s next
  onward : at < next

each_both : {A : Type 0} (P : A → Type 0) (xs ys : List A) → Each P xs → Each P ys → Each P (xs ++ ys)
each_both P [] ys h k = k
each_both P (x ∷ xs) ys h k = (h.0, each_both P xs ys h.1 k)

module _ (s : List ℕ) (u : is_utf8 s ≡ true) where
  -- the part of the text from `at` on, and the part after its first byte
  next_part : (b at : ℕ) (t : List ℕ) → b ∷ t ≡ drop at s → t ≡ drop (at + 1) s
  next_part b at t e = ap (drop 1) e ∙ drop-drop 1 at s

  byte_there : (b at c : ℕ) (t : List ℕ) → b ∷ t ≡ drop at s → eqb b c ≡ true → is_at s at c ≡ true
  byte_there b at c t e h =
      let z : at + 0 ≡ at = omega arith in
      ap (λ (i : ℕ). is_at s i c) (sym z) ∙ sym (at_part s at 0 c) ∙ ap (λ (l : List ℕ). is_at l 0 c) (sym e) ∙ h

  -- a parameter
  abbrev ParamAt : ℕ → Option Param → Type 0
  ParamAt at None = Unit {0}
  ParamAt at (Some x) = Between s at x.name × Between s (at + x.value) x.value_len

  param_cut : (at : ℕ) → Cut s at → ParamAt at (param_at (drop at s))
  unfolding param_at
  param_cut at c =
      let t = drop at s in
      let n = run is_named t in
      let q = n + 1 + run is_blank (drop (n + 1) t) in
      let m = quoted_len false (drop (q + 1) t) in
      by_if (ParamAt at) (leb 1 n && is_at t n 61 && is_at t q 34 && is_at t (q + 1 + m) 34) _ _
      (λ h.
      let (h₂, closes) = both (leb 1 n && is_at t n 61 && is_at t q 34) (is_at t (q + 1 + m) 34) h in
      let (h₁, opens) = both (leb 1 n && is_at t n 61) (is_at t q 34) h₂ in
      let (some, equals) = both (leb 1 n) (is_at t n 61) h₁ in
      let first : at + q + 1 ≡ at + (q + 1) = omega arith in
      let last : at + (q + 1 + m) ≡ at + (q + 1) + m = omega arith in (
        record { from = c; to = before_part s u at n 61 refl equals },
        record {
          from = rw first at (after_part s u at q 34 refl opens);
          to = rw last at (before_part s u at (q + 1 + m) 34 refl closes);
        },
      ))
      (λ h. tt)

  and_cut : (e at from : ℕ) (p : Option Param) (more : ℕ → Params) → ParamAt at p → ((len : ℕ) → Each (ParamCut s) (more len).rows)
      → Each (ParamCut s) (param_and e at from p more).rows
  and_cut e at from None more h k = tt
  and_cut e at from (Some x) more h k = (h, k x.len)

  more_cut : (e k at : ℕ) (t : List ℕ) → t ≡ drop at s → Each (ParamCut s) (more_params e k at t).rows
  unfolding more_params
  more_cut e k at [] q = tt
  more_cut e (suc k) at (b ∷ t) q = more_cut e k (at + 1) t (next_part b at t q)
  more_cut e zero at (b ∷ t) q =
      let r = next_part b at t q in
      by_if (λ (ps : Params). Each (ParamCut s) ps.rows) (eqb b 32) _ _
      (λ h.
      and_cut e (at + 1) at (param_at t) (λ len. more_params e len (at + 1) t)
      (rw (← r) at (param_cut (at + 1) (after s u at 32 refl (byte_there b at 32 t q h))))
      (λ len. more_cut e len (at + 1) t r))
      (λ h. tt)

  params_cut : (e at : ℕ) → Cut s at → Each (ParamCut s) (params_from e at (drop at s)).rows
  unfolding params_from
  params_cut e at c = and_cut e at at (param_at (drop at s)) _ (param_cut at c) (λ len. more_cut e len at (drop at s) refl)

  -- an element
  abbrev ElementCut : ℕ → Element → Type 0
  ElementCut at no_element = Unit {0}
  ElementCut at (is_element row params next) = Taken s at row params next

  element_cut : (e at : ℕ) → ElementCut at (element_from e at (drop at s))
  unfolding open_from
  element_cut e at = rw (element_is e s at) (
      by_if (λ o. ElementCut at (element_of e s at o)) (is_at s at 91 && leb 1 n) _ _
      (λ h.
      let opened = (both (is_at s at 91) (leb 1 n) h).0 in
      let id = after s u at 91 refl opened in
      let passed = walk_on id_len id_le id_cuts s (at + 1) id in
      let first = blanks_on s (at + 1 + n) passed in
      by_if (ElementCut at) (leb 1 n && is_at s (params_from e start (drop start s)).next 93) _ _
      (λ q.
      record {
        id = record { from = id; to = passed };
        its = params_cut e start first;
        ends = after s u (params_from e start (drop start s)).next 93 refl (both (leb 1 n) _ q).1;
        onward = omega (arith, (params_reach e start s first.inside).few);
      })
      (λ q. tt))
      (λ h. tt))
    where
      n : ℕ
      n = id_len (drop (at + 1) s)

      start : ℕ
      start = blanks_from s (at + 1 + n)

  -- what stands at an element's position
  abbrev ItemCut : ℕ → Item → Type 0
  ItemCut at (taken row params next) = Taken s at row params next
  ItemCut at (skipped next) = Cut s next × (at < next)
  ItemCut at ended = Unit {0}

  item_cut : (rules : Rules) (at : ℕ) (x : Element) → ElementCut at x → ItemCut at (item_of rules at (drop at s) x)
  item_cut Rfc5424Rules at (is_element row params next) h = h
  item_cut Rfc5424Rules at no_element h =
      let n = run is_inside (drop at s) in
      by_if (ItemCut at) (is_at (drop at s) 0 91 && is_at (drop at s) n 93) _ _
      (λ q. (after_part s u at n 93 refl (both (is_at (drop at s) 0 91) (is_at (drop at s) n 93) q).1, omega arith)) (λ q. tt)
  item_cut Rfc3164Rules at (is_element row params next) h = by_if (ItemCut at) (leb 1 (length params)) _ _ (λ q. h) (λ q. tt)
  item_cut Rfc3164Rules at no_element h = tt

  and_rows : (e at : ℕ) (i : Item) (more : ℕ → ℕ → Rows) → Cut s at → ItemCut at i → ((f next : ℕ) → at < next → Cut s next → RowsCut s (more f next))
      → RowsCut s (item_and e at i more)
  and_rows e at (taken row params next) more c h k =
      let r = k (e + 1) next h.onward h.ends in
      record { ids = (h.id, r.ids); params = each_both (ParamCut s) params _ h.its r.params; to = r.to }
  and_rows e at (skipped next) more c h k = k e next h.1 h.0
  and_rows e at ended more c h k = record { ids = tt; params = tt; to = c }

  elements_cut : (rules : Rules) (e k at : ℕ) (t : List ℕ) → t ≡ drop at s → Cut s (at + k) → RowsCut s (elements_from rules e k at t)
  unfolding elements_from item_from
  elements_cut rules e k at [] q c =
      let z : at + k ≡ at = omega (arith, c.inside, length-drop at s, ap length q) in
      record { ids = tt; params = tt; to = rw z at c }
  elements_cut rules e (suc k) at (b ∷ t) q c =
      let z : at + suc k ≡ at + 1 + k = omega arith in
      elements_cut rules e k (at + 1) t (next_part b at t q) (rw z at c)
  elements_cut rules e zero at (b ∷ t) q c =
      let z : at + 0 ≡ at = omega arith in
      and_rows e at (item_from rules e at (b ∷ t)) _ (rw z at c) (rw q (item_cut rules at _ (element_cut e at)))
      (λ f next l d.
      let n : at + 1 + (next - at - 1) ≡ next = omega arith in
      elements_cut rules f (next - at - 1) (at + 1) t (next_part b at t q) (rw n d))

  abbrev pub DataCut : Data → Type 0
  DataCut no_data = Unit {0}
  DataCut (is_data rows) = RowsCut s rows

  pub data_cut : (rules : Rules) (at : ℕ) → Cut s at → DataCut (data_from rules s at)
  unfolding data_from
  data_cut rules at c =
      let z : at + 0 ≡ at = omega arith in
      by_if DataCut (hyphen_at rules s at) _ _ (λ h. record { ids = tt; params = tt; to = after s u at 45 refl (hyphen_there rules s at h) }) λ h.
      by_if DataCut (eqb (elements_from rules 0 0 at (drop at s)).next at) _ _ (λ q. tt) λ q.
      elements_cut rules 0 0 at (drop at s) refl (rw z c)

  pub rows_cut : (rules : Rules) (at : ℕ) → Cut s at → RowsCut s (rows_or at (data_from rules s at))
  rows_cut rules at c = go (data_from rules s at) (data_cut rules at c)
    where
      go : (d : Data) → DataCut d → RowsCut s (rows_or at d)
      go no_data h = record { ids = tt; params = tt; to = c }
      go (is_data rows) h = h
