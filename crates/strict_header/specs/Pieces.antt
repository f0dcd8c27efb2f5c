-- For private contracts alone: what the private readers of the header answer, as functions of what the parser of `grammar` finds: a number or a place for each text, and how many bytes were taken.
use Rattle.std.specs.Prelude.{ℕ, ◌+◌, ◌-◌, ◌*◌, ℤ, Bool, not, ◌&&◌, List, leb, length, Some, None}
use Rattle.std.specs.Prelude as std
use Rattle.std.proofs.Math.Option.{Option}
use Rattle.digits.specs.Digits.{decimal}
use Rattle.grammar.specs.Line.{Offset, zero_led}
use Rattle.grammar.specs.Parse.{Parsed, Three, Names}
use Rattle.grammar.specs.Parse.Parsed.{failed, found}
use Rattle.grammar.specs.Reading.{place_of, offset_of, nanos_of, digits_of}
use Rattle.record.specs.Places.{absent, place}
use Rattle.record.specs.declared.Place.{Place}
use Rattle.record.specs.declared.Timestamp as stamped

-- a number of at most `max`, with no zero in front of other digits
abbrev pub plain_to : ℕ → List ℕ → Bool
plain_to max t = not (zero_led t) && leb (decimal t) max

-- what is found, as f says it, and how many bytes were taken
abbrev pub value_of : {A B : Type 0} → (A → B) → Parsed A → std.Option (B × ℕ)
value_of f failed = None
value_of f (found a n) = Some (f a, n)

-- the minutes of an hour and a minute
abbrev pub minutes_of : List ℕ × List ℕ → ℕ
minutes_of t = decimal t.0 * 60 + decimal t.1

abbrev pub pair : List ℕ × List ℕ → ℕ × ℕ
pair t = (decimal t.0, decimal t.1)

abbrev pub triple : Three → ℕ × ℕ × ℕ
triple t = (decimal t.0, decimal t.1.0, decimal t.1.1)

-- the nanoseconds, their digits and the minutes
abbrev pub ending : Option (List ℕ) × Offset → ℕ × ℕ × ℤ
ending t = (nanos_of t.0, digits_of t.0, offset_of t.1)

-- the process id at `procid` of the line, and the message id
abbrev pub ids_at : ℕ → List ℕ × List ℕ → Place × Place
ids_at procid t = (place_of procid t.0, place_of (procid + length t.0 + 1) t.1)

-- the four names, the first at `host` of the line
abbrev pub names_at : ℕ → Names → Place × Place × Place × Place
names_at host t =
    let app = host + length t.0 + 1 in
    let procid = app + length t.1.0 + 1 in
    let msgid = procid + length t.1.1.0 + 1 in
    (place_of host t.0, place_of app t.1.0, place_of procid t.1.1.0, place_of msgid t.1.1.1)

-- the place of a timestamp's text, which starts at `at` and takes `len` bytes with its space
abbrev pub text_at : std.Option stamped.Timestamp → ℕ → ℕ → Place
text_at None at len = absent
text_at (Some t) at len = place at (len - 1)
