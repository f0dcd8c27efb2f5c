-- Worked examples, computed from the definitions: the layout of docs/INTERFACE.md, and bytes that hold no record.
use Rattle.std.specs.Prelude.{Some}
use Prim.Native.Nat.{ℕ, ◌*◌}
use mathlib.Core.Path.{◌≡◌, refl}
use mathlib.Core.Bool.{Bool, true, false}
use mathlib.Core.List.{List, [], ◌∷◌, ◌++◌, map}
use lib.IntN.{pos, negsuc}
use lib.ListN.{length, take, set}
use Rattle.record.specs.Places.{absent, place}
use Rattle.record.specs.Records.{empty_record, empty_strict}
use Rattle.record.specs.declared.Record.{Record}
use Rattle.record.specs.declared.Protocol.TheVariants.{Rfc5424}
use Rattle.layout.specs.Layout.{seconds_word, digits_word, message_word, elements_word, params_word, record_size, strict_size, little, words_bytes, bits, record_words, strict_words, record_bytes, strict_bytes}
use Rattle.layout.specs.Incoming.{number, word_at, signed, front_held, marks_held, holds_record, record_at}

-- the least byte first; -2 is all ones but for the last bit
little_endian : map (little 8) (0 ∷ 258 ∷ bits (negsuc 1) ∷ [])
    ≡ (0 ∷ 0 ∷ 0 ∷ 0 ∷ 0 ∷ 0 ∷ 0 ∷ 0 ∷ []) ∷ (2 ∷ 1 ∷ 0 ∷ 0 ∷ 0 ∷ 0 ∷ 0 ∷ 0 ∷ []) ∷ (254 ∷ 255 ∷ 255 ∷ 255 ∷ 255 ∷ 255 ∷ 255 ∷ 255 ∷ []) ∷ []
unfolding little
little_endian = refl

-- a second before 1970, seven hours west
abbrev sample : Record
sample =
    record {
      protocol = Rfc5424 1;
      facility = Some 4;
      severity = Some 2;
      timestamp = Some (record { seconds = negsuc 0; nanos = 500000000; digits = 3; offset = negsuc 419 });
      host = place 34 22;
      app = absent;
      procid = place 0 0;
      msgid = place 58 5;
      message = record { start = 70; len = 11 };
    }

abbrev sample_words : List ℕ
sample_words =
    1 ∷ 1 ∷ 1 ∷ 4 ∷ 1 ∷ 2 ∷ 1 ∷ 18446744073709551615 ∷ 500000000 ∷ 3 ∷ 18446744073709551196
    ∷ 1 ∷ 34 ∷ 22 ∷ 0 ∷ 0 ∷ 0 ∷ 1 ∷ 0 ∷ 0 ∷ 1 ∷ 58 ∷ 5 ∷ 70 ∷ 11 ∷ 3 ∷ 7 ∷ []

-- each word in its place, and the words that the strict reader adds
words : (record_words sample 3 7 ≡ sample_words)
    × (strict_words (record { common = sample; timestamp_text = place 8 25; has_message = true }) 3 7 ≡ sample_words ++ (1 ∷ 8 ∷ 25 ∷ 1 ∷ []))
unfolding record_words strict_words
words = (refl, refl)

lengths : map length (record_bytes sample 3 7 ∷ strict_bytes empty_strict 0 0 ∷ []) ≡ 216 ∷ 248 ∷ []
unfolding little words_bytes record_words strict_words
lengths = refl

-- the sizes, and where the seconds, the digits, the message and the counts stand
sizes : record_size ∷ strict_size ∷ [] ≡ 216 ∷ 248 ∷ []
sizes = refl

positions : map (λ i. i * 8) (seconds_word ∷ digits_word ∷ message_word ∷ elements_word ∷ params_word ∷ []) ≡ 56 ∷ 72 ∷ 184 ∷ 200 ∷ 208 ∷ []
positions = refl

seconds : map (word_at (record_bytes sample 3 7)) (seconds_word ∷ elements_word ∷ params_word ∷ []) ≡ 18446744073709551615 ∷ 3 ∷ 7 ∷ []
unfolding little words_bytes record_words number word_at
seconds = refl

-- the least and the greatest numbers of 64 bits
ends : map signed (9223372036854775807 ∷ 9223372036854775808 ∷ 18446744073709551615 ∷ [])
    ≡ pos 9223372036854775807 ∷ negsuc 9223372036854775807 ∷ negsuc 0 ∷ []
ends = refl

-- the record comes back, bytes after it or not
back : (record_at (record_bytes sample 3 7 ++ (9 ∷ [])) ≡ sample) × (record_at (record_bytes empty_record 0 0) ≡ empty_record)
unfolding little words_bytes record_words number word_at record_at
back = (refl, refl)

-- the bytes, a byte of them changed
abbrev with : ℕ → ℕ → Bool
with i b = holds_record (set (record_bytes sample 3 7) i b)

-- protocol 2, version 2^32, facility's mark 2, facility 256, severity's mark 0 with 2, timestamp's mark 0, nanoseconds and digits 2^32, an offset of 33 bits, host's
-- mark 2
unheld : with 0 2 ∷ with 12 1 ∷ with 16 2 ∷ with 25 1 ∷ with 32 0 ∷ with 48 0 ∷ with 68 1 ∷ with 76 1 ∷ with 84 0 ∷ with 88 2 ∷ []
    ≡ false ∷ false ∷ false ∷ false ∷ false ∷ false ∷ false ∷ false ∷ false ∷ false ∷ []
unfolding little words_bytes record_words number word_at front_held marks_held holds_record
unheld = refl

-- a byte short; and what is held: the bytes as they are, another version, facility 255, an absent place of any numbers
held : holds_record (take 215 (record_bytes sample 3 7)) ∷ with 0 1 ∷ with 11 1 ∷ with 24 255 ∷ with 120 9 ∷ [] ≡ false ∷ true ∷ true ∷ true ∷ true ∷ []
unfolding little words_bytes record_words number word_at front_held marks_held holds_record
held = refl

-- a timestamp that is absent has no digits
digitless : holds_record (record_bytes empty_record 0 0) ∷ holds_record (set (record_bytes empty_record 0 0) 72 1) ∷ [] ≡ true ∷ false ∷ []
unfolding little words_bytes record_words number word_at front_held marks_held holds_record
digitless = refl
