-- For private contracts alone: a step of the walk over the elements and their parameters. `ids` are the rows of the elements.
use Rattle.std.specs.Prelude.{ℕ, ◌+◌, ◌≡◌, Bool, true, false, ◌&&◌, List, [], ◌∷◌, ◌++◌, ltb, eqb, length, get_or, if◌then◌else◌}
use Rattle.base.specs.Texts.{text_at}
use Rattle.record.specs.Params.{row_of}
use Rattle.record.specs.declared.Param.{Param}
use Rattle.output.specs.Output.{Wrote}
use Rattle.grammar.specs.Abnf.{sd_name_byte}
use Rattle.writes.specs.Written.{escape}
use Rattle.writes.specs.Fits.{class_fits}
use Rattle.fitting.specs.Heads.{row_fits}
use Rattle.ids.specs.Ids.{id_in}
use Rattle.writer_data.specs.declared.Walk.{Walk}
use Rattle.writer_data.specs.Sizes.{Capped}

-- `[id`
abbrev pub open_text : List ℕ → List ℕ → List ℕ
open_text text row = (91 ∷ []) ++ id_in text row

-- ` name="`
abbrev pub name_text : List ℕ → List ℕ → List ℕ
name_text text row = (32 ∷ []) ++ text_at text (get_or row 1 0) (get_or row 2 0) ++ (61 ∷ 34 ∷ [])

-- ` name="value"`
abbrev pub param_text : List ℕ → List ℕ → List ℕ
param_text text row = name_text text row ++ escape (text_at text (get_or row 3 0) (get_or row 4 0)) ++ (34 ∷ [])

-- the end of element k, and the opening of the next one, if there is one
abbrev pub next_text : List ℕ → List (List ℕ) → ℕ → List ℕ
next_text text ids k = if ltb (k + 1) (length ids) then (93 ∷ []) ++ open_text text (get_or ids (k + 1) []) else 93 ∷ []

-- the opening of the first; with none, `-`
abbrev pub first_text : List ℕ → List (List ℕ) → List ℕ
first_text text ids = if eqb (length ids) 0 then 45 ∷ [] else open_text text (get_or ids 0 [])

-- the id of element k, if there is one, is an SD-NAME
abbrev pub id_fits : List ℕ → List (List ℕ) → ℕ → Bool
id_fits text ids k = if ltb k (length ids) then class_fits 32 sd_name_byte (id_in text (get_or ids k [])) else true

-- the entry is the next one that counts, and of the element that is open
abbrev pub is_own : Walk → ℕ → Param → Bool
is_own w count p = ltb w.next count && eqb p.element w.element

abbrev pub step_text : List ℕ → List (List ℕ) → ℕ → Walk → Param → List ℕ
step_text text ids count w p = if is_own w count p then param_text text (row_of p) else next_text text ids w.element

abbrev pub step_fits : List ℕ → List (List ℕ) → ℕ → Walk → Param → Bool
step_fits text ids count w p = if is_own w count p then row_fits text (row_of p) else id_fits text ids (w.element + 1)

-- the walk over n elements is over, since something does not fit
abbrev pub stopped_at : ℕ → Walk
stopped_at n = record { element = n; next = 0; at = 0; fits = false }

-- where a step leads
pub record Leads (count : ℕ) (w : Walk) (p : Param) (r : Walk) : Type 0 where
  pub element_is : r.element ≡ (if is_own w count p then w.element else w.element + 1)
  pub next_is : r.next ≡ (if is_own w count p then w.next + 1 else w.next)

-- a step that is written
pub record Puts (text : List ℕ) (ids : List (List ℕ)) (count : ℕ) (w : Walk) (p : Param) (before : List ℕ) (r : Walk) (after : List ℕ) : Type 0 where
  pub leads : Leads count w p r
  pub wrote : Wrote before w.at (step_text text ids count w p) r.at after

-- a step that is measured; where it does not fit, the walk is over
pub data Measures (text : List ℕ) (ids : List (List ℕ)) (count : ℕ) (w : Walk) (p : Param) (r : Walk) : Type 0 where
  fitting : r.fits ≡ true → step_fits text ids count w p ≡ true → Leads count w p r → Capped (w.at + length (step_text text ids count w p)) r.at
      → Measures text ids count w p r
  stopped : r ≡ stopped_at (length ids) → step_fits text ids count w p ≡ false → Measures text ids count w p r
