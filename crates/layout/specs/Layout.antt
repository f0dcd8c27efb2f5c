-- The record, byte by byte, as docs/INTERFACE.md lays it out: words of 8 bytes, little-endian.
use Rattle.std.specs.Prelude.{ℕ, zero, suc, ◌+◌, ◌-◌, ◌*◌, ◌/◌, ◌%◌, Bool, true, false, List, [], ◌∷◌, ◌++◌, ℤ, pos, negsuc, Option, Some, None}
use Rattle.output.specs.Fits.{Fits}
use Rattle.output.specs.Output.{Wrote}
use Rattle.record.specs.declared.Protocol.{Protocol}
use Rattle.record.specs.declared.Protocol.TheVariants.{Rfc3164, Rfc5424}
use Rattle.record.specs.declared.Place.{Place}
use Rattle.record.specs.declared.Span.{Span}
use Rattle.record.specs.declared.Record.{Record}
use Rattle.record.specs.declared.StrictRecord.{StrictRecord}
use Rattle.record.specs.declared.Timestamp.{Timestamp}

-- the number of each field's first word: a field ends where the next one starts
abbrev pub protocol_word : ℕ
protocol_word = 0

abbrev pub version_word : ℕ
version_word = protocol_word + 1

abbrev pub facility_word : ℕ
facility_word = version_word + 1

abbrev pub severity_word : ℕ
severity_word = facility_word + 2

abbrev pub timestamp_word : ℕ
timestamp_word = severity_word + 2

abbrev pub seconds_word : ℕ
seconds_word = timestamp_word + 1

abbrev pub nanos_word : ℕ
nanos_word = seconds_word + 1

abbrev pub digits_word : ℕ
digits_word = nanos_word + 1

abbrev pub offset_word : ℕ
offset_word = digits_word + 1

abbrev pub host_word : ℕ
host_word = offset_word + 1

abbrev pub app_word : ℕ
app_word = host_word + 3

abbrev pub procid_word : ℕ
procid_word = app_word + 3

abbrev pub msgid_word : ℕ
msgid_word = procid_word + 3

abbrev pub message_word : ℕ
message_word = msgid_word + 3

-- the counts of elements and of parameters
abbrev pub elements_word : ℕ
elements_word = message_word + 2

abbrev pub params_word : ℕ
params_word = elements_word + 1

-- how many words a record has; the strict reader adds the timestamp's text and the mark of a message
abbrev pub word_count : ℕ
word_count = params_word + 1

abbrev pub strict_word_count : ℕ
strict_word_count = word_count + 4

-- how many bytes
abbrev pub record_size : ℕ
record_size = word_count * 8

abbrev pub strict_size : ℕ
strict_size = strict_word_count * 8

-- the last `k` bytes of `n`, the least first
unfoldable pub little : ℕ → ℕ → List ℕ
little zero n = []
little (suc k) n = (n % 256) ∷ little k (n / 256)

-- words, one after the other
unfoldable pub words_bytes : List ℕ → List ℕ
words_bytes [] = []
words_bytes (w ∷ ws) = little 8 w ++ words_bytes ws

-- a signed number as two's complement in 64 bits
abbrev pub bits : ℤ → ℕ
bits (pos n) = n
bits (negsuc n) = 18446744073709551615 - n

abbrev pub mark : Bool → ℕ
mark true = 1
mark false = 0

abbrev pub protocol_words : Protocol → List ℕ
protocol_words Rfc3164 = 0 ∷ 0 ∷ []
protocol_words (Rfc5424 version) = 1 ∷ version ∷ []

abbrev pub level_words : Option ℕ → List ℕ
level_words None = 0 ∷ 0 ∷ []
level_words (Some n) = 1 ∷ n ∷ []

abbrev pub stamp_words : Option Timestamp → List ℕ
stamp_words None = 0 ∷ 0 ∷ 0 ∷ 0 ∷ 0 ∷ []
stamp_words (Some t) = 1 ∷ bits t.seconds ∷ t.nanos ∷ t.digits ∷ bits t.offset ∷ []

abbrev pub place_words : Place → List ℕ
place_words p = mark p.present ∷ p.start ∷ p.len ∷ []

abbrev pub span_words : Span → List ℕ
span_words s = s.start ∷ s.len ∷ []

-- the words before `hostWord`
abbrev pub front_words : Record → List ℕ
front_words r = protocol_words r.protocol ++ level_words r.facility ++ level_words r.severity ++ stamp_words r.timestamp

-- those before `messageWord`
abbrev pub name_words : Record → List ℕ
name_words r = place_words r.host ++ place_words r.app ++ place_words r.procid ++ place_words r.msgid

-- the rest: the message and the counts of elements and parameters
abbrev pub end_words : Record → ℕ → ℕ → List ℕ
end_words r e p = span_words r.message ++ (e ∷ p ∷ [])

unfoldable pub record_words : Record → ℕ → ℕ → List ℕ
record_words r e p = front_words r ++ name_words r ++ end_words r e p

-- what the strict reader adds: the timestamp's text and whether there is a message
unfoldable pub strict_words : StrictRecord → ℕ → ℕ → List ℕ
strict_words r e p = record_words r.common e p ++ place_words r.timestamp_text ++ (mark r.has_message ∷ [])

abbrev pub record_bytes : Record → ℕ → ℕ → List ℕ
record_bytes r e p = words_bytes (record_words r e p)

abbrev pub strict_bytes : StrictRecord → ℕ → ℕ → List ℕ
strict_bytes r e p = words_bytes (strict_words r e p)

-- `out` has room for the words from `at` on, and a write of them (for private contracts alone)
pub record Room (out : List ℕ) (at : ℕ) (words : List ℕ) : Type 0 where
  pub fits : Fits out at (words_bytes words)

pub record Puts (before : List ℕ) (at : ℕ) (words : List ℕ) (next : ℕ) (after : List ℕ) : Type 0 where
  pub wrote : Wrote before at (words_bytes words) next after
