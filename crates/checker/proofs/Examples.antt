-- Worked examples, computed: a strict record as bytes.
use Rattle.std.specs.Prelude.{Some}
use Prim.Native.Nat.{ℕ}
use mathlib.Core.Path.{◌≡◌, refl}
use mathlib.Core.Bool.{true, false}
use mathlib.Core.List.{List, [], ◌∷◌, ◌++◌, map}
use lib.IntN.{negsuc, pos}
use lib.ListN.{take}
use Rattle.record.specs.Places.{absent, place}
use Rattle.record.specs.Refusals.{refusal_number}
use Rattle.record.specs.declared.Protocol.TheVariants.{Rfc5424}
use Rattle.record.specs.declared.StrictRecord.{StrictRecord}
use Rattle.layout.specs.Layout.{little, words_bytes, record_words, strict_words, strict_bytes}
use Rattle.layout.specs.Incoming.{number, word_at, front_held, marks_held, holds_record, record_at, element_count_at, param_count_at}
use Rattle.checker.specs.Memory.{holds_strict, strict_at, first_refusal}

-- `<34>1 1970-01-01T00:00:00.5-01:00 h - - - [t] ok`
abbrev reading : StrictRecord
reading =
    record {
      common = record {
        protocol = Rfc5424 1;
        facility = Some 4;
        severity = Some 2;
        timestamp = Some (record { seconds = pos 3600; nanos = 500000000; digits = 1; offset = negsuc 59 });
        host = place 34 1;
        app = absent;
        procid = absent;
        msgid = absent;
        message = record { start = 46; len = 2 };
      };
      timestamp_text = place 6 27;
      has_message = true;
    }

-- what was laid out comes back
came_back : strict_at (strict_bytes reading 1 0) ≡ reading
unfolding strict_at strict_words record_words words_bytes little number word_at record_at
came_back = refl

-- the record's bytes with other words behind them
abbrev with_words : List ℕ → List ℕ
with_words words = words_bytes (record_words reading.common 1 0 ++ words)

held : map holds_strict (strict_bytes reading 1 0 ∷ with_words (0 ∷ 0 ∷ 0 ∷ 0 ∷ []) ∷ with_words (2 ∷ 6 ∷ 27 ∷ 1 ∷ []) ∷ with_words (1 ∷ 6 ∷ 27 ∷ 2 ∷ []) ∷ take 247 (strict_bytes reading 1 0) ∷ [])
    ≡ true ∷ true ∷ false ∷ false ∷ false ∷ []
unfolding holds_strict strict_words record_words words_bytes little number word_at holds_record front_held marks_held
held = refl

counts : (element_count_at (strict_bytes reading 1 0) ∷ param_count_at (strict_bytes reading 1 0) ∷ []) ≡ 1 ∷ 0 ∷ []
unfolding strict_words record_words words_bytes little number word_at
counts = refl

first : map (λ (n : ℕ). refusal_number (first_refusal n)) (0 ∷ 8192 ∷ 8193 ∷ []) ≡ 7 ∷ 7 ∷ 1 ∷ []
first = refl
