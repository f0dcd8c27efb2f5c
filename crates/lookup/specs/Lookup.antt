-- Lookup: the unescaped value of the first parameter, in table order, with a given element id and name; refusals 1, 2, 7, 9, 8 in order.
use Rattle.std.specs.Prelude.{ℕ, ◌≡◌, List, [], ◌∷◌, Bool, not, ◌&&◌, ltb, eqb, length, get_or, take, if◌then◌else◌, Result, Ok, Err}
use Rattle.base.specs.Texts.{text_at, same_text}
use Rattle.record.specs.Limits.{line_limit}
use Rattle.record.specs.declared.Record.{Record}
use Rattle.record.specs.declared.Refusal.TheVariants.{LineTooLong, BadSetting, Unsuitable, NotFound, OutputShort}
use Rattle.output.specs.Output.{output_after}
use Rattle.suits.specs.Suits.{suits}
use Rattle.lookup.specs.Unescape.{unescaped}
use Rattle.record.specs.declared.Refusal.{Refusal}

-- the id of element `k`
abbrev pub id_text : List ℕ → List (List ℕ) → ℕ → List ℕ
id_text line elements k = let row = get_or elements k [] in text_at line (get_or row 0 0) (get_or row 1 0)

pub data Found : Type 0 where
  nothing : Found
  value : List ℕ → Found

-- the value, as the line has it, of the first row whose element has that id and whose name is that name
unfoldable pub found : List ℕ → List (List ℕ) → List ℕ → List ℕ → List (List ℕ) → Found
found line elements id name [] = Found.nothing
found line elements id name (row ∷ rows) =
    if same_text (id_text line elements (get_or row 0 0)) id && same_text (text_at line (get_or row 1 0) (get_or row 2 0)) name
    then Found.value (text_at line (get_or row 3 0) (get_or row 4 0))
    else found line elements id name rows

-- refusals 9 and 8
abbrev pub value_answer : Bool → Found → ℕ → Result ℕ Refusal
value_answer loose Found.nothing out = Err NotFound
value_answer loose (Found.value v) out = if ltb out (length (unescaped loose v)) then Err OutputShort else Ok (length (unescaped loose v))

-- kind 0 is loose, 1 strict
abbrev pub answered : List ℕ → Record → ℕ → ℕ → List (List ℕ) → List (List ℕ) → ℕ → Found → ℕ → Result ℕ Refusal
answered line r e p elements params kind f out =
    if ltb line_limit (length line) then Err LineTooLong
    else if ltb 1 kind then Err BadSetting
    else if not (suits line r e p elements params) then Err Unsuitable
    else value_answer (eqb kind 0) f out

abbrev pub value_text : Bool → Found → List ℕ
value_text loose Found.nothing = []
value_text loose (Found.value v) = unescaped loose v

pub record Looks (line : List ℕ) (r : Record) (e p : ℕ) (elements params : List (List ℕ)) (id name : List ℕ) (kind : ℕ) (before : List ℕ) (w : Result ℕ Refusal) (after : List ℕ) : Type 0 where
  pub answer : w ≡ answered line r e p elements params kind (found line elements id name (take p params)) (length before)
  pub output : after ≡ output_after w (value_text (eqb kind 0) (found line elements id name (take p params))) before
