-- Worked examples, computed from the definitions.
use Rattle.std.specs.Prelude.{None, Ok, Err}
use mathlib.Core.Path.{◌≡◌, refl, ap}
use mathlib.Core.Bool.{true, false, false≢true}
use mathlib.Core.List.{[], ◌∷◌, map}
use Rattle.record.specs.Limits.{line_limit}
use Rattle.record.specs.Places.{absent, place}
use Rattle.record.specs.Refusals.{refusal_number}
use Rattle.record.specs.Answers.{answer_of, strict_answer_of, read_answer_of, strict_read_answer_of, output_answer_of}
use Rattle.record.specs.Params.{row_of, blank}
use Rattle.record.specs.declared.Place.{Place}
use Rattle.record.specs.declared.Refusal.TheVariants.{LineTooLong, BadSetting, NotUtf8, NoReading, TooManyElements, TooManyParams, Unsuitable, NotFound, OutputShort, CellFull, BadCount, FrameTooLong, BadLength, UnknownVersion, BadField, WrongClaim, Unwritable}
use Rattle.record.specs.declared.Protocol.TheVariants.{Rfc3164}
use Rattle.record.specs.declared.Record.{Record}
use Rattle.record.specs.declared.Reading.TheVariants.{Read, Whole}

-- the cases in the order in which they are checked (RULES Numbers a), and their numbers
numbers : map refusal_number (LineTooLong ∷ BadSetting ∷ NotUtf8 ∷ NoReading ∷ TooManyElements ∷ TooManyParams ∷ Unsuitable ∷ NotFound ∷ OutputShort ∷ CellFull ∷ BadCount ∷ FrameTooLong ∷ BadLength ∷ UnknownVersion ∷ BadField ∷ WrongClaim ∷ Unwritable ∷ [])
    ≡ 1 ∷ 2 ∷ 3 ∷ 4 ∷ 5 ∷ 6 ∷ 7 ∷ 9 ∷ 8 ∷ 10 ∷ 11 ∷ 12 ∷ 13 ∷ 14 ∷ 15 ∷ 16 ∷ 17 ∷ []
numbers = refl

abbrev nothing : Place
nothing = record { present = false; start = 0; len = 0 }

-- the empty record, written out
abbrev unread : Record
unread =
    record {
      protocol = Rfc3164;
      facility = None;
      severity = None;
      timestamp = None;
      host = nothing;
      app = nothing;
      procid = nothing;
      msgid = nothing;
      message = record { start = 0; len = 0 };
    }

-- a refusal returns its number, the empty record and zeros
refused : (answer_of (Err NotUtf8) ≡ record { number = 3; whole = false; reading = unread; elements = 0; params = 0 })
    × (strict_answer_of (Err TooManyParams)
    ≡ record {
      number = 6;
      reading = record { common = unread; timestamp_text = nothing; has_message = false };
      elements = 0;
      params = 0;
    })
    × (output_answer_of (Err OutputShort) ≡ record { number = 8; len = 0 })
refused = (refl, refl, refl)

-- what is done has the number 0, and its own values
done : (answer_of (Ok (Read unread 2 3)) ≡ record { number = 0; whole = false; reading = unread; elements = 2; params = 3 })
    × (answer_of (Ok (Whole unread)) ≡ record { number = 0; whole = true; reading = unread; elements = 0; params = 0 })
    × (strict_answer_of (Ok (record { reading = record { common = unread; timestamp_text = nothing; has_message = true }; elements = 2; params = 3 }))
    ≡ record {
      number = 0;
      reading = record { common = unread; timestamp_text = nothing; has_message = true };
      elements = 2;
      params = 3;
    })
    × (output_answer_of (Ok 7) ≡ record { number = 0; len = 7 })
done = (refl, refl, refl, refl)

-- a C caller gets 0 of both readings, and `whole` tells them apart
told : map read_answer_of (Ok (Read unread 2 3) ∷ Ok (Whole unread) ∷ Err NotUtf8 ∷ [])
    ≡ record { number = 0; whole = 0; reach = 0 } ∷ record { number = 0; whole = 1; reach = 0 } ∷ record { number = 3; whole = 0; reach = 0 } ∷ []
told = refl

strict_told : map strict_read_answer_of (Ok (record { reading = record { common = unread; timestamp_text = nothing; has_message = true }; elements = 2; params = 3 }) ∷ Err NoReading ∷ [])
    ≡ record { number = 0; whole = 0; reach = 0 } ∷ record { number = 4; whole = 0; reach = 0 } ∷ []
strict_told = refl

-- an entry's numbers in order, and the entry of no place
entries : map row_of (record { element = 1; name_start = 2; name_len = 3; value_start = 4; value_len = 5 } ∷ blank ∷ []) ≡ (1 ∷ 2 ∷ 3 ∷ 4 ∷ 5 ∷ []) ∷ (0 ∷ 0 ∷ 0 ∷ 0 ∷ 0 ∷ []) ∷ []
entries = refl

-- absent and empty differ
apart : absent ≡ place 0 0 → ⊥
apart e = false≢true (ap (λ (p : Place). p.present) e)

-- a line has at most 8,192 bytes
limit : line_limit ≡ 8192
limit = refl
