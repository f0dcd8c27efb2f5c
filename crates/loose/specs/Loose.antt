-- lib.rs: the loose reader. Refusals 1, 2, 3, 5 and 6 in order, the record, the counts and the tables.
use Rattle.std.specs.Prelude.{ℕ, ◌≡◌, List, Bool, not, ◌&&◌, leb, ltb, eqb, length, take, ℤ, if◌then◌else◌, Result, Ok, Err}
use Rattle.base.specs.Fills.{filled}
use Rattle.utf8.specs.Lead.{is_utf8}
use Rattle.white.specs.Trim.{trimmed}
use Rattle.calendar.specs.Calendar.{last_year, valid_offset}
use Rattle.record.specs.Limits.{line_limit}
use Rattle.record.specs.Records.{message_alone}
use Rattle.record.specs.declared.Reading.{Reading}
use Rattle.record.specs.declared.Reading.TheVariants.{Read, Whole}
use Rattle.record.specs.declared.Refusal.TheVariants.{LineTooLong, BadSetting, NotUtf8, TooManyElements, TooManyParams}
use Rattle.structured_data.specs.Data.{Rows, end_at}
use Rattle.draft.specs.Outcome.{Outcome}
use Rattle.draft.specs.Outcome.Outcome.{no_reading, is_reading}
use Rattle.rfc3164.specs.Rfc3164.{rfc3164}
use Rattle.rfc5424.specs.Rfc5424.{rfc5424}
use Rattle.record.specs.declared.Refusal.{Refusal}

-- the first that is a reading
abbrev pub or_else : Outcome → Outcome → Outcome
or_else no_reading y = y
or_else (is_reading r at rows) y = is_reading r at rows

-- Variant 0 tries RFC 5424, then RFC 3164; 1 is RFC 3164, 2 RFC 5424.
unfoldable pub by_variant : ℕ → ℕ → ℤ → List ℕ → ℕ → Outcome
by_variant variant year offset s start =
    if eqb variant 0 then or_else (rfc5424 s start) (rfc3164 year offset s start)
    else if eqb variant 1 then rfc3164 year offset s start
    else rfc5424 s start

-- Trim White_Space at both ends.
unfoldable pub outcome_of : List ℕ → ℕ → ℕ → ℤ → Outcome
outcome_of line variant year offset = let ends = trimmed line in by_variant variant year offset (take ends.end line) ends.start

-- variant 0 to 2, year 0 to 9999, offset -1439 to 1439
abbrev pub settings_ok : ℕ → ℕ → ℤ → Bool
settings_ok variant year offset = leb variant 2 && leb year last_year && valid_offset offset

-- A line with no reading becomes the message whole and untrimmed, protocol RFC 3164, nothing else set. A reading is refused with 5 and 6 by tables of `e` and `p` entries.
abbrev pub judged : List ℕ → Outcome → ℕ → ℕ → Result Reading Refusal
judged line no_reading e p = Ok (Whole (message_alone (length line)))
judged line (is_reading r at rows) e p =
    if ltb e (length rows.elements) then Err TooManyElements
    else if ltb p (length rows.params) then Err TooManyParams
    else Ok (Read r (length rows.elements) (length rows.params))

-- refusals 1, 2 and 3, and then what the outcome gives
abbrev pub answered : List ℕ → ℕ → ℕ → ℤ → ℕ → ℕ → Result Reading Refusal
answered line variant year offset e p =
    if ltb line_limit (length line) then Err LineTooLong
    else if not (settings_ok variant year offset) then Err BadSetting
    else if not (is_utf8 line) then Err NotUtf8
    else judged line (outcome_of line variant year offset) e p

-- the tables after a call: the rows in front where the line is read; unchanged where it is the message, and on a refusal
abbrev pub table_after : Result Reading Refusal → List (List ℕ) → List (List ℕ) → List (List ℕ)
table_after (Ok (Read r e p)) rows old = filled rows old
table_after (Ok (Whole r)) rows old = old
table_after (Err f) rows old = old

abbrev pub rows_of : Outcome → Rows
rows_of no_reading = end_at 0
rows_of (is_reading r at rows) = rows

-- loose reading into tables that held e₀ and p₀ and hold e₁ and p₁
pub record Reads (line : List ℕ) (variant year : ℕ) (offset : ℤ) (e₀ p₀ : List (List ℕ)) (r : Result Reading Refusal) (e₁ p₁ : List (List ℕ)) : Type 0 where
  pub answer : r ≡ answered line variant year offset (length e₀) (length p₀)
  pub elements : e₁ ≡ table_after r (rows_of (outcome_of line variant year offset)).elements e₀
  pub params : p₁ ≡ table_after r (rows_of (outcome_of line variant year offset)).params p₀
