-- The check as C has it: the strict record and the counts as bytes, and the answer as a number.
use Rattle.std.specs.Prelude.{ℕ, ◌+◌, ◌≡◌, Bool, true, false, ◌&&◌, List, eqb, leb, ltb, length, if◌then◌else◌, Result}
use Rattle.record.specs.Limits.{line_limit}
use Rattle.record.specs.Refusals.{refusal_number}
use Rattle.record.specs.declared.Refusal.{Refusal}
use Rattle.record.specs.declared.Refusal.TheVariants.{LineTooLong, Unsuitable}
use Rattle.record.specs.declared.StrictRecord.{StrictRecord}
use Rattle.layout.specs.Layout.{word_count, strict_size}
use Rattle.layout.specs.Incoming.{word_at, holds_record, place_at, record_at, element_count_at, param_count_at}
use Rattle.claims.specs.Claims.{Checks, checked_number}

-- the words that the strict reader adds: the place of the timestamp's text, and the mark of a message
abbrev pub text_word : ℕ
text_word = word_count

abbrev pub message_mark_word : ℕ
message_mark_word = text_word + 3

unfoldable pub holds_strict : List ℕ → Bool
holds_strict bytes = leb strict_size (length bytes) && holds_record bytes && ltb (word_at bytes text_word) 2 && ltb (word_at bytes message_mark_word) 2

unfoldable pub strict_at : List ℕ → StrictRecord
strict_at bytes =
    record { common = record_at bytes; timestamp_text = place_at bytes text_word; has_message = eqb (word_at bytes message_mark_word) 1 }

-- the first of the refusals 1 and 7 that applies to a line of `len` bytes and bytes that hold no strict record
abbrev pub first_refusal : ℕ → Refusal
first_refusal len = if ltb line_limit len then LineTooLong else Unsuitable

-- A call over bytes: where they hold a strict record, the service's answer to it and to the counts; where not, 1 or 7.
pub data ChecksBytes (line bytes : List ℕ) (elements params : List (List ℕ)) (n : ℕ) : Type 0 where
  held : holds_strict bytes ≡ true → (a : Result Unit Refusal) → Checks line (strict_at bytes) (element_count_at bytes) (param_count_at bytes) elements params a → n ≡ checked_number a
      → ChecksBytes line bytes elements params n
  unheld : holds_strict bytes ≡ false → n ≡ refusal_number (first_refusal (length line)) → ChecksBytes line bytes elements params n

-- Any two numbers that the contract allows are equal.
abbrev pub OneNumber : Type 0
OneNumber = (line bytes : List ℕ) (elements params : List (List ℕ)) (m n : ℕ) → ChecksBytes line bytes elements params m → ChecksBytes line bytes elements params n → m ≡ n
