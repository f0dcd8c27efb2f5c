-- Worked examples, computed from the definitions: one case that suits at every limit, and each sentence of refusal 7 broken once.
use Rattle.std.specs.Prelude.{Option, Some, None}
use Prim.Native.Nat.{ℕ}
use mathlib.Core.Path.{◌≡◌, refl}
use mathlib.Core.Bool.{Bool, true, false}
use mathlib.Core.List.{List, [], ◌∷◌, map}
use lib.IntN.{ℤ, pos, negsuc}
use lib.ListN.{replicate}
use Rattle.base.specs.Bytes.{bytes}
use Rattle.calendar.specs.Instant.{shown}
use Rattle.record.specs.Places.{absent, place}
use Rattle.record.specs.declared.Place.{Place}
use Rattle.record.specs.declared.Protocol.TheVariants.{Rfc3164}
use Rattle.record.specs.declared.Record.{Record}
use Rattle.suits.specs.Suits.{record_suits, elements_suit, params_suit, tables_suit, suits}
use Rattle.record.specs.declared.Timestamp.{Timestamp}

abbrev line : List ℕ
line = bytes "0123456789"

record Case : Type 0 where
  of : Record
  e : ℕ
  p : ℕ
  elements : List (List ℕ)
  params : List (List ℕ)

abbrev suit : Case → Bool
suit c = suits line c.of c.e c.p c.elements c.params

abbrev fields : Option ℕ → Option ℕ → Option Timestamp → Place → Place → Place → Place → ℕ → Record
fields facility severity timestamp host app procid msgid message =
    record {
      protocol = Rfc3164;
      facility = facility;
      severity = severity;
      timestamp = timestamp;
      host = host;
      app = app;
      procid = procid;
      msgid = msgid;
      message = record { start = message; len = 2 };
    }

-- the last second of the year 9999 at the offset, and the first of the year 0
abbrev last : ℕ → ℕ → ℤ → Option Timestamp
last nanos digits offset = Some record { seconds = pos 253402300799; nanos = nanos; digits = digits; offset = offset }

abbrev first : ℤ → Option Timestamp
first offset = Some record { seconds = negsuc 62167219199; nanos = 0; digits = 0; offset = offset }

abbrev whole : Place
whole = place 0 10

-- absent, and it ends past the line
abbrev lost : Place
lost = record { present = false; start = 11; len = 0 }

-- with no rows
abbrev alone : Record → Case
alone r = record { of = r; e = 0; p = 0; elements = []; params = [] }

abbrev fraction : Option Timestamp → Bool
fraction t = suit (alone (fields None None t absent absent absent absent 8))

abbrev plain : Record
plain = fields None None None absent absent absent absent 8

-- two elements, and parameters of them
abbrev ids : List (List ℕ)
ids = (1 ∷ 2 ∷ []) ∷ (10 ∷ 0 ∷ []) ∷ []

abbrev rows : ℕ → List (List ℕ) → Case
rows p params = record { of = plain; e = 2; p = p; elements = ids; params = params }

abbrev row : ℕ → List ℕ
row k = k ∷ 3 ∷ 7 ∷ 10 ∷ 0 ∷ []

taken : map suit
    (alone plain
    ∷ alone (fields (Some 23) (Some 7) (last 999999999 9 (pos 0)) whole whole whole whole 8)
    ∷ alone (fields (Some 0) (Some 0) (last 0 0 (negsuc 1438)) whole absent whole absent 8)
    ∷ alone (fields None None (first (pos 1439)) absent absent absent absent 8)
    ∷ rows 3 (row 0 ∷ row 1 ∷ row 1 ∷ row 7 ∷ [])
    ∷ [])
    ≡ replicate 5 true
unfolding suits tables_suit record_suits elements_suit params_suit shown
taken = refl

-- facility, severity, nanoseconds, offset either way, local year 10000 and the one before 0
numbers : map suit
    (alone (fields (Some 24) None None absent absent absent absent 8)
    ∷ alone (fields None (Some 8) None absent absent absent absent 8)
    ∷ alone (fields None None (last 1000000000 9 (pos 0)) absent absent absent absent 8)
    ∷ alone (fields None None (first (pos 1440)) absent absent absent absent 8)
    ∷ alone (fields None None (last 0 0 (negsuc 1439)) absent absent absent absent 8)
    ∷ alone (fields None None (last 0 0 (pos 1)) absent absent absent absent 8)
    ∷ alone (fields None None (first (negsuc 0)) absent absent absent absent 8)
    ∷ [])
    ≡ replicate 7 false
unfolding suits tables_suit record_suits elements_suit params_suit shown
numbers = refl

-- a fraction that as many digits show, with zeros after it or alone, and one that they do not show; ten digits
fractions : (map fraction (last 500000000 1 (pos 0) ∷ last 500000000 6 (pos 0) ∷ last 0 3 (pos 0) ∷ last 0 9 (pos 0) ∷ last 123456789 9 (pos 0) ∷ []) ≡ replicate 5 true)
    × (map fraction (last 500000000 0 (pos 0) ∷ last 123456789 8 (pos 0) ∷ last 1 0 (pos 0) ∷ last 0 10 (pos 0) ∷ last 123456789 10 (pos 0) ∷ []) ≡ replicate 5 false)
unfolding suits tables_suit record_suits elements_suit params_suit shown
fractions = (refl, refl)

-- a place past the line: each text, absent too, and the message
places : map suit
    (alone (fields None None None (place 8 3) absent absent absent 8)
    ∷ alone (fields None None None absent lost absent absent 8)
    ∷ alone (fields None None None absent absent (place 0 11) absent 8)
    ∷ alone (fields None None None absent absent absent lost 8)
    ∷ alone (fields None None None absent absent absent absent 9)
    ∷ [])
    ≡ replicate 5 false
unfolding suits tables_suit record_suits elements_suit params_suit shown
places = refl

-- a count over its table, numbers that fall or reach the count, an id, a name and a value past the line
tables : map suit
    (record { of = plain; e = 3; p = 0; elements = ids; params = [] }
    ∷ rows 2 (row 0 ∷ [])
    ∷ rows 2 (row 1 ∷ row 0 ∷ [])
    ∷ rows 1 (row 2 ∷ [])
    ∷ record { of = plain; e = 1; p = 0; elements = (9 ∷ 2 ∷ []) ∷ []; params = [] }
    ∷ rows 1 ((0 ∷ 3 ∷ 8 ∷ 0 ∷ 0 ∷ []) ∷ [])
    ∷ rows 1 ((0 ∷ 3 ∷ 7 ∷ 11 ∷ 0 ∷ []) ∷ [])
    ∷ rows 1 ((0 ∷ 3 ∷ 7 ∷ 9 ∷ 2 ∷ []) ∷ [])
    ∷ [])
    ≡ replicate 8 false
unfolding suits tables_suit record_suits elements_suit params_suit shown
tables = refl
