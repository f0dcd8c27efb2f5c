-- For private contracts alone: the steps of a comparison.
use Rattle.std.specs.Prelude.{ℕ, suc, ◌+◌, ◌-◌, ◌*◌, ◌≤◌, ◌<◌, ◌≡◌, List, [], ◌∷◌, Option, Some, None, Bool, not, ◌&&◌, eqb, ltb, length, get_or, take, if◌then◌else◌}
use Rattle.base.specs.Texts.{text_at, same_text}
use Rattle.record.specs.Limits.{line_limit}
use Rattle.record.specs.declared.Record.{Record}
use Rattle.message.specs.Rooms.{param_size, total}
use Rattle.pairs.specs.declared.Odd.{Odd}
use Rattle.keyed.specs.Notes.{Listed}
use Rattle.keyed.specs.Odd.{rows_of}
use Rattle.differ.specs.declared.Differences.{Differences}
use Rattle.differ.specs.declared.Line.{Line}
use Rattle.differ.specs.declared.Part.{Part}
use Rattle.differ.specs.Seen.{Seen, text_of, time_of, seen_of}
use Rattle.differ.specs.Differences.{same_protocol, same_level, same_time, same_given, first_position, elements_differ, pair_at, differences_of}

-- the eight bytes from place i on are the same in both
abbrev pub same_eight : List ℕ → List ℕ → ℕ → Bool
same_eight a b i =
    eqb (get_or a i 0) (get_or b i 0) && eqb (get_or a (i + 1) 0) (get_or b (i + 1) 0) && eqb (get_or a (i + 2) 0) (get_or b (i + 2) 0) && eqb (get_or a (i + 3) 0) (get_or b (i + 3) 0)
    && eqb (get_or a (i + 4) 0) (get_or b (i + 4) 0) && eqb (get_or a (i + 5) 0) (get_or b (i + 5) 0) && eqb (get_or a (i + 6) 0) (get_or b (i + 6) 0) && eqb (get_or a (i + 7) 0) (get_or b (i + 7) 0)

-- 1 where two fields are not the same
abbrev pub mark_of : Bool → ℕ
mark_of same = if not same then 1 else 0

-- marks of fields
pub record Marks (m most r : ℕ) : Type 0 where
  pub is : r ≡ m
  pub small : r ≤ most

-- of facility and severity
abbrev pub level_marks : Record → Record → ℕ
level_marks a b = mark_of (same_level a.facility b.facility) + 2 * mark_of (same_level a.severity b.severity)

-- of the first four
abbrev pub head_marks : Record → Record → ℕ
head_marks a b =
    mark_of (same_protocol a.protocol b.protocol) + 2 * level_marks a b + 8 * mark_of (same_time (time_of a.timestamp) (time_of b.timestamp))

-- of the texts
abbrev pub text_marks : List ℕ → Record → List ℕ → Record → ℕ
text_marks line₁ a line₂ b =
    mark_of (same_given (text_of line₁ a.host) (text_of line₂ b.host))
    + 2 * mark_of (same_given (text_of line₁ a.app) (text_of line₂ b.app))
    + 4 * mark_of (same_given (text_of line₁ a.procid) (text_of line₂ b.procid))
    + 8 * mark_of (same_given (text_of line₁ a.msgid) (text_of line₂ b.msgid))

abbrev pub message_mark : List ℕ → Record → List ℕ → Record → ℕ
message_mark line₁ a line₂ b = mark_of (same_text (text_at line₁ a.message.start a.message.len) (text_at line₂ b.message.start b.message.len))

-- the places of a record are in the line
pub record RecordIn (line : List ℕ) (r : Record) : Type 0 where
  pub host_in : r.host.start + r.host.len ≤ length line
  pub app_in : r.app.start + r.app.len ≤ length line
  pub procid_in : r.procid.start + r.procid.len ≤ length line
  pub msgid_in : r.msgid.start + r.msgid.len ≤ length line
  pub message_in : r.message.start + r.message.len ≤ length line

-- ---- elements

pub record IdIn (line : List ℕ) (elements : List (List ℕ)) (i : ℕ) : Type 0 where
  pub given : i < length elements
  pub inside : get_or (get_or elements i []) 0 0 + get_or (get_or elements i []) 1 0 ≤ length line

-- how many texts in front are the same
unfoldable pub common_ids : List (List ℕ) → List (List ℕ) → ℕ
common_ids [] b = 0
common_ids (s ∷ a) [] = 0
common_ids (s ∷ a) (t ∷ b) = if same_text s t then suc (common_ids a b) else 0

abbrev pub pair_part : Odd → ℕ → Part
pair_part odd m =
    if ltb odd.entry m then record { position = odd.element; line = 1; entry = odd.entry } else record { position = odd.element; line = 2; entry = odd.entry - m }

abbrev pub part_of : ℕ → ℕ → Odd → ℕ → ℕ → Option Part
part_of k longer odd m n =
    if ltb odd.entry n && ltb odd.element k then Some (pair_part odd m)
    else if ltb k longer then Some (record { position = k; line = 0; entry = 0 })
    else None

-- the same of two readings
unfoldable pub part_from : Seen → Seen → Option Part
part_from a b =
    if elements_differ a b then Some (record { position = first_position a b; line = (pair_at a b (first_position a b)).0; entry = (pair_at a b (first_position a b)).1 })
    else None

-- ---- lines

-- the rows that a line's walk finds
abbrev pub rows_in_line : List ℕ → Line → List (List ℕ) → List (List ℕ)
rows_in_line line l elements = rows_of (take l.end line) elements l.ids

abbrev pub seen_by : List ℕ → Line → List (List ℕ) → Seen
seen_by line l elements = seen_of line l.read (take l.ids elements) (rows_in_line line l elements)

-- a row of a line with so many ids
pub record RowIn (s : List ℕ) (ids : ℕ) (row : List ℕ) : Type 0 where
  pub below : get_or row 0 0 < ids
  pub name_in : get_or row 1 0 + get_or row 2 0 ≤ length s
  pub value_in : get_or row 3 0 + get_or row 4 0 ≤ length s

-- a line that is read
pub record Readable (line : List ℕ) (l : Line) (elements : List (List ℕ)) : Type 0 where
  pub record_in_lem : RecordIn line l.read
  pub end_in : l.end ≤ length line
  pub short : length line ≤ line_limit
  pub listed : Listed (take l.end line) elements l.ids
  pub ids_few : l.ids < 65536
  pub size : 7 * total param_size (rows_in_line line l elements) ≤ 8 * l.end
  pub count : 5 * length (rows_in_line line l elements) ≤ l.end
  pub params_are : l.params ≡ length (rows_in_line line l elements)
  pub rows_in : (i : ℕ) → i < length (rows_in_line line l elements) → RowIn (take l.end line) l.ids (get_or (rows_in_line line l elements) i [])

-- what differs; and the tables are as they were
pub record Differs (line₁ : List ℕ) (a : Line) (e₁ : List (List ℕ)) (line₂ : List ℕ) (b : Line) (e₂ : List (List ℕ)) (r : Differences) (e₁' e₂' : List (List ℕ)) : Type 0 where
  pub is : r ≡ differences_of (seen_by line₁ a e₁) (seen_by line₂ b e₂)
  pub kept₁ : e₁' ≡ e₁
  pub kept₂ : e₂' ≡ e₂
