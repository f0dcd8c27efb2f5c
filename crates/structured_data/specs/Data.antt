-- structured_data.rs: one or more elements, or in RFC 5424 `-`; by the rules of RFC 5424 lines, or of RFC 3164 lines.
use Rattle.std.specs.Prelude.{ℕ, zero, suc, ◌+◌, ◌-◌, List, [], ◌∷◌, ◌++◌, Bool, false, ◌&&◌, leb, eqb, length, drop, if◌then◌else◌}
use Rattle.base.specs.Choose.{is_at}
use Rattle.base.specs.Runs.{run}
use Rattle.parsers.specs.Steps.{is_inside}
use Rattle.structured_data.specs.Element.{Element, element_from}
use Rattle.structured_data.specs.Element.Element.{no_element, is_element}
use Rattle.structured_data.specs.declared.Rules.{Rules}
use Rattle.structured_data.specs.declared.Rules.TheVariants.{Rfc3164Rules, Rfc5424Rules}

-- the rows of both tables, and the position after what was taken
pub record Rows : Type 0 where
  pub elements : List (List ℕ)
  pub params : List (List ℕ)
  pub next : ℕ

abbrev pub end_at : ℕ → Rows
end_at at = record { elements = []; params = []; next = at }

abbrev pub element_and : List ℕ → List (List ℕ) → Rows → Rows
element_and row params more = record { elements = row ∷ more.elements; params = params ++ more.params; next = more.next }

-- what stands at an element's position: an element and the position after it, something skipped up to a position, or the end of the list
pub data Item : Type 0 where
  taken : (row : List ℕ) (params : List (List ℕ)) (next : ℕ) → Item
  skipped : (next : ℕ) → Item
  ended : Item

-- RFC 5424: from `[` through the next `]`; with no `]` ahead the list ends before it
abbrev pub skip_from : ℕ → List ℕ → Item
skip_from at t =
    let n = run is_inside t in
    if is_at t 0 91 && is_at t n 93 then skipped (at + n + 1) else ended

-- RFC 5424: an element that fails is skipped. RFC 3164: failing or parameterless elements end the list.
abbrev pub item_of : Rules → ℕ → List ℕ → Element → Item
item_of Rfc5424Rules at t (is_element row params next) = taken row params next
item_of Rfc5424Rules at t no_element = skip_from at t
item_of Rfc3164Rules at t (is_element row params next) = if leb 1 (length params) then taken row params next else ended
item_of Rfc3164Rules at t no_element = ended

unfoldable pub item_from : Rules → ℕ → ℕ → List ℕ → Item
item_from rules e at t = item_of rules at t (element_from e at t)

-- `more e next` is what comes from `next` on, where `e` elements are taken
abbrev pub item_and : ℕ → ℕ → Item → (ℕ → ℕ → Rows) → Rows
item_and e at (taken row params next) more = element_and row params (more (e + 1) next)
item_and e at (skipped next) more = more e next
item_and e at ended more = end_at at

-- the elements from position `at` on, the first of them number `e`; `k` bytes of the text still belong to what came before
unfoldable pub elements_from : Rules → ℕ → ℕ → ℕ → List ℕ → Rows
elements_from rules e k at [] = end_at at
elements_from rules e (suc k) at (b ∷ t) = elements_from rules e k (at + 1) t
elements_from rules e zero at (b ∷ t) =
    item_and e at (item_from rules e at (b ∷ t)) (λ f next. elements_from rules f (next - at - 1) (at + 1) t)

-- the structured data at a position of the line; nothing where nothing was taken
pub data Data : Type 0 where
  no_data : Data
  is_data : Rows → Data

-- RFC 5424: `-` says that there are no elements. RFC 3164: a hyphen there belongs to the message.
abbrev pub hyphen_at : Rules → List ℕ → ℕ → Bool
hyphen_at Rfc5424Rules s at = is_at s at 45
hyphen_at Rfc3164Rules s at = false

unfoldable pub data_from : Rules → List ℕ → ℕ → Data
data_from rules s at =
    let rows = elements_from rules 0 0 at (drop at s) in
    if hyphen_at rules s at then is_data (end_at (at + 1))
    else if eqb rows.next at then no_data
    else is_data rows

-- its rows; none where there is no structured data
abbrev pub rows_or : ℕ → Data → Rows
rows_or at no_data = end_at at
rows_or at (is_data rows) = rows
