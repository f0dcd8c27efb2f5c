-- A hyphen where the structured data would stand belongs to the message: RFC 3164 has no mark for the absence of elements. (To be read: no contract rests on it.)
use Rattle.std.specs.Prelude.{ℕ, ◌-◌, ◌≡◌, true, List, length, Option}
use Rattle.base.specs.Choose.{is_at}
use Rattle.pri.specs.declared.Pri.{Pri}
use Rattle.structured_data.specs.Data.{end_at}
use Rattle.draft.specs.Outcome.{Outcome}
use Rattle.draft.specs.Outcome.Outcome.{no_reading, is_reading}
use Rattle.rfc3164.specs.Rfc3164.{tag_end, header_from, body_from}
use Rattle.record.specs.declared.Timestamp.{Timestamp}

-- a reading with no elements, whose message is all of the text from `at` on
abbrev pub MessageFrom : List ℕ → ℕ → Outcome → Type 0
MessageFrom s at no_reading = ⊥
MessageFrom s at (is_reading r b rows) = (r.message ≡ record { start = at; len = length s - at }) × (b ≡ at) × (rows ≡ end_at at)

abbrev pub HyphenKept : Type 0
HyphenKept =
    (pri : Pri) (stamp : Option Timestamp) (s : List ℕ) (at : ℕ)
    → let b = tag_end s (header_from s at).next in
    is_at s b 45 ≡ true → MessageFrom s b (body_from pri stamp s at)
