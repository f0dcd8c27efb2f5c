-- A record that comes in: whether bytes hold one, and which.
use Rattle.std.specs.Prelude.{ℕ, ◌+◌, ◌-◌, ◌*◌, Bool, ◌&&◌, ◌||◌, List, [], ◌∷◌, eqb, leb, ltb, ℤ, pos, negsuc, length, if◌then◌else◌, Option, Some, None}
use Rattle.base.specs.Texts.{text_at}
use Rattle.layout.specs.Layout.{protocol_word, version_word, facility_word, severity_word, timestamp_word, seconds_word, nanos_word, digits_word, offset_word, host_word, app_word, procid_word, msgid_word, message_word, elements_word, params_word, record_size}
use Rattle.record.specs.declared.Protocol.{Protocol}
use Rattle.record.specs.declared.Protocol.TheVariants.{Rfc3164, Rfc5424}
use Rattle.record.specs.declared.Place.{Place}
use Rattle.record.specs.declared.Span.{Span}
use Rattle.record.specs.declared.Record.{Record}
use Rattle.record.specs.declared.Timestamp.{Timestamp}

-- the number of bytes, the least first
unfoldable pub number : List ℕ → ℕ
number [] = 0
number (b ∷ bytes) = b + 256 * number bytes

-- word `i`
unfoldable pub word_at : List ℕ → ℕ → ℕ
word_at bytes i = number (text_at bytes (i * 8) 8)

-- a number of 64 bits as two's complement
abbrev pub signed : ℕ → ℤ
signed n = if ltb n 9223372036854775808 then pos n else negsuc (18446744073709551615 - n)

-- a mark of 0 with nothing, or of 1 with a number below `limit`
abbrev pub marked : ℕ → ℕ → ℕ → Bool
marked limit m n = (eqb m 0 && eqb n 0) || (eqb m 1 && ltb n limit)

-- a signed 32-bit number
abbrev pub narrow : ℕ → Bool
narrow n = ltb n 2147483648 || ltb 18446744071562067967 n

-- a timestamp's mark, seconds, nanoseconds, digits and offset
abbrev pub stamped : ℕ → ℕ → ℕ → ℕ → ℕ → Bool
stamped m s n d o = (eqb m 0 && eqb s 0 && eqb n 0 && eqb d 0 && eqb o 0) || (eqb m 1 && ltb n 4294967296 && ltb d 4294967296 && narrow o)

-- the words of the protocol, the levels and the timestamp
unfoldable pub front_held : List ℕ → Bool
front_held bytes =
    marked 4294967296 (word_at bytes protocol_word) (word_at bytes version_word)
    && marked 256 (word_at bytes facility_word) (word_at bytes (facility_word + 1))
    && marked 256 (word_at bytes severity_word) (word_at bytes (severity_word + 1))
    && stamped (word_at bytes timestamp_word) (word_at bytes seconds_word) (word_at bytes nanos_word) (word_at bytes digits_word) (word_at bytes offset_word)

-- the marks of the places
unfoldable pub marks_held : List ℕ → Bool
marks_held bytes =
    ltb (word_at bytes host_word) 2 && ltb (word_at bytes app_word) 2 && ltb (word_at bytes procid_word) 2 && ltb (word_at bytes msgid_word) 2

unfoldable pub holds_record : List ℕ → Bool
holds_record bytes = leb record_size (length bytes) && front_held bytes && marks_held bytes

abbrev pub protocol_at : ℕ → ℕ → Protocol
protocol_at m version = if eqb m 0 then Rfc3164 else Rfc5424 version

abbrev pub level_at : ℕ → ℕ → Option ℕ
level_at m n = if eqb m 0 then None else Some n

abbrev pub stamp_at : ℕ → ℕ → ℕ → ℕ → ℕ → Option Timestamp
stamp_at m s n d o = if eqb m 0 then None else Some (record { seconds = signed s; nanos = n; digits = d; offset = signed o })

-- the place whose mark is word `i`
abbrev pub place_at : List ℕ → ℕ → Place
place_at bytes i = record { present = eqb (word_at bytes i) 1; start = word_at bytes (i + 1); len = word_at bytes (i + 2) }

-- the span whose start is word `i`
abbrev pub span_at : List ℕ → ℕ → Span
span_at bytes i = record { start = word_at bytes i; len = word_at bytes (i + 1) }

unfoldable pub record_at : List ℕ → Record
record_at bytes =
    record {
      protocol = protocol_at (word_at bytes protocol_word) (word_at bytes version_word);
      facility = level_at (word_at bytes facility_word) (word_at bytes (facility_word + 1));
      severity = level_at (word_at bytes severity_word) (word_at bytes (severity_word + 1));
      timestamp = stamp_at (word_at bytes timestamp_word) (word_at bytes seconds_word) (word_at bytes nanos_word) (word_at bytes digits_word) (word_at bytes offset_word);
      host = place_at bytes host_word;
      app = place_at bytes app_word;
      procid = place_at bytes procid_word;
      msgid = place_at bytes msgid_word;
      message = span_at bytes message_word;
    }

abbrev pub element_count_at : List ℕ → ℕ
element_count_at bytes = word_at bytes elements_word

abbrev pub param_count_at : List ℕ → ℕ
param_count_at bytes = word_at bytes params_word
