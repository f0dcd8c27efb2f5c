-- For private contracts alone: how the walks begin and end, and what is answered.
use Rattle.std.specs.Prelude.{ℕ, ◌+◌, ◌≤◌, ◌≡◌, Bool, true, false, not, ◌&&◌, List, ltb, leb, length, get_or, take, if◌then◌else◌, Result, Ok, Err}
use Rattle.base.specs.Texts.{all_different}
use Rattle.record.specs.Limits.{line_limit}
use Rattle.record.specs.Params.{blank}
use Rattle.record.specs.declared.Param.{Param}
use Rattle.record.specs.declared.Refusal.TheVariants.{Unwritable, LineTooLong, OutputShort}
use Rattle.suits.specs.Suits.{elements_suit}
use Rattle.output.specs.Output.{Wrote}
use Rattle.grammar.specs.Line.{message_text}
use Rattle.writes.specs.declared.Handed.{Handed}
use Rattle.writes.specs.Written.{written}
use Rattle.writes.specs.Fits.{fields_fit}
use Rattle.writes.specs.Writes.{part_in, fields_in}
use Rattle.fitting.specs.Heads.{head_fits}
use Rattle.ids.specs.Ids.{ids_in, ids_fit}
use Rattle.writer_header.specs.Fronts.{front_text}
use Rattle.writer_data.specs.declared.Walk.{Walk}
use Rattle.writer_data.specs.Sizes.{Capped}
use Rattle.writer_data.specs.Walks.{first_text, id_fits, stopped_at}
use Rattle.record.specs.declared.Refusal.{Refusal}

-- the rows that count are in their table, and name places in the text
pub record Rows (text : List ℕ) (count : ℕ) (elements : List (List ℕ)) : Type 0 where
  pub counted : count ≤ length elements
  pub inside : elements_suit text (take count elements) ≡ true

-- an entry names places in the text
pub record Entry (text : List ℕ) (p : Param) : Type 0 where
  pub name_in : p.name_start + p.name_len ≤ length text
  pub value_in : p.value_start + p.value_len ≤ length text

-- all but the elements is measured, with the opening of the first one
pub data Begins (text : List ℕ) (h : Handed) (ids : List (List ℕ)) (w : Walk) : Type 0 where
  begun : (n : ℕ) → w ≡ record { element = 0; next = 0; at = n; fits = true } → head_fits text h ≡ true → id_fits text ids 0 ≡ true
      → Capped (length (front_text text h) + length (first_text text ids) + length (message_text (part_in text h.message))) n
      → Begins text h ids w
  stopped : w ≡ stopped_at (length ids) → (head_fits text h && id_fits text ids 0) ≡ false → Begins text h ids w

-- where all fits, the ids are SD-NAMEs
pub record Named (text : List ℕ) (ids : List (List ℕ)) (w : Walk) : Type 0 where
  pub named : w.fits ≡ true → ids_fit text ids ≡ true

-- and they differ
abbrev pub settled : List ℕ → List (List ℕ) → Walk → Walk
settled text ids w = if w.fits then (if all_different (ids_in text ids) then w else stopped_at (length ids)) else w

-- what was judged and measured
pub data Measured (text : List ℕ) (h : Handed) (elements params : List (List ℕ)) (w : Walk) : Type 0 where
  good : w.fits ≡ true → fields_fit (fields_in text h elements params) ≡ true → Capped (length (written (fields_in text h elements params))) w.at
      → Measured text h elements params w
  bad : w.fits ≡ false → fields_fit (fields_in text h elements params) ≡ false → Measured text h elements params w

-- a text that is written, with which a walk begins
pub record Opens (t before : List ℕ) (w : Walk) (after : List ℕ) : Type 0 where
  pub starts : w ≡ record { element = 0; next = 0; at = w.at; fits = true }
  pub wrote : Wrote before 0 t w.at after

-- the entry, where it is one of those that count
abbrev pub entry_or : List Param → ℕ → ℕ → Param
entry_or params i count = if ltb i count then get_or params i blank else blank

-- refusals 17, 1 and 8, or the length
abbrev pub answer_of : Walk → ℕ → Result ℕ Refusal
answer_of w room =
    if not w.fits then Err Unwritable
    else if ltb line_limit w.at then Err LineTooLong
    else if ltb room w.at then Err OutputShort
    else Ok w.at

abbrev pub is_written : Walk → ℕ → Bool
is_written w room = w.fits && leb w.at line_limit && leb w.at room
