-- For private contracts alone: what measuring answers. The sizes of many rows may add up to more than any number holds, so each is taken from the room that is left.
use Rattle.std.specs.Prelude.{ℕ, ◌+◌, ◌-◌, Bool, false, List, [], ◌∷◌, ◌++◌, leb, ltb, length, get_or, if◌then◌else◌, Option, Some, None}
use Rattle.record.specs.declared.Record.{Record}
use Rattle.message.specs.Message.{names_text, head_text}
use Rattle.message.specs.Opens.{end_text}

-- what `n` bytes leave of a room, if they fit
unfoldable pub room_for : ℕ → ℕ → Option ℕ
room_for left n = if ltb left n then None else Some (left - n)

-- and what they leave of what others left
abbrev pub room_after : Option ℕ → ℕ → Option ℕ
room_after None n = None
room_after (Some left) n = room_for left n

-- whether they fit into that
abbrev pub fits_in : Option ℕ → ℕ → Bool
fits_in None n = false
fits_in (Some left) n = leb n left

-- bytes of `[id]`
unfoldable pub element_size : List ℕ → ℕ
element_size row = get_or row 1 0 + 2

-- bytes of ` name="value"`
unfoldable pub param_size : List ℕ → ℕ
param_size row = get_or row 2 0 + get_or row 4 0 + 4

-- of all rows
unfoldable pub total : (List ℕ → ℕ) → List (List ℕ) → ℕ
total size [] = 0
total size (row ∷ rows) = size row + total size rows

-- bytes of all but the parameters
unfoldable pub other_size : List ℕ → Record → List (List ℕ) → ℕ
other_size line r ids =
    length (head_text line r ++ names_text line r r.protocol)
    + length (end_text r.protocol (length ids))
    + r.message.len
    + total element_size ids
