-- Worked examples, computed: claims of some lines, told yes and told no, and the numbers of the answers.
use Rattle.std.specs.Prelude.{Some, None, Ok, Err}
use Prim.Native.Nat.{ℕ, ◌+◌}
use mathlib.Core.Path.{◌≡◌, refl}
use mathlib.Core.Bool.{true, false}
use mathlib.Core.List.{List, [], ◌∷◌, map}
use mathlib.Core.Option.{some}
use lib.IntN.{ℤ, pos, negsuc}
use Rattle.base.specs.Bytes.{bytes}
use Rattle.utf8.specs.Lead.{lead_of, utf8_from}
use Rattle.digits.specs.Digits.{decimal_from}
use Rattle.calendar.specs.Calendar.{leap, month_days, year_days, days_before_year, days_of_months, day_number}
use Rattle.calendar.specs.Instant.{local_seconds, seconds_of, span_from, year_of, month_of, clock_of, shown}
use Rattle.output.specs.Numerals.{fixed, width_from}
use Rattle.record.specs.Places.{absent, place}
use Rattle.record.specs.declared.Place.{Place}
use Rattle.record.specs.declared.Protocol.{Protocol}
use Rattle.record.specs.declared.Protocol.TheVariants.{Rfc3164, Rfc5424}
use Rattle.record.specs.declared.StrictRecord.{StrictRecord}
use Rattle.record.specs.declared.Refusal.TheVariants.{LineTooLong, Unsuitable, WrongClaim}
use Rattle.grammar.specs.Line.{Offset}
use Rattle.grammar.specs.Reading.{record_of}
use Rattle.suits.specs.Suits.{record_suits, elements_suit, params_suit, tables_suit, suits}
use Rattle.claims.specs.Claims.{Claim, claim_of, claim_in, claim_suits, checked_number}
use Rattle.claims.specs.Holds.{head_next, stamp_next, text_next, param_next, id_next, byte_next, holds}

numbers : map checked_number (Ok tt ∷ Err LineTooLong ∷ Err Unsuitable ∷ Err WrongClaim ∷ []) ≡ 0 ∷ 1 ∷ 7 ∷ 16 ∷ []
numbers = refl

-- ---- a line with a timestamp, one element and one parameter

-- of a line whose timestamp has n bytes: host `h`, element `t`, parameter `a`, message `ok`
abbrev reading : ℕ → ℤ → ℕ → ℕ → ℤ → ℕ → StrictRecord
reading n seconds nanos digits offset host =
    record {
      common = record {
        protocol = Rfc5424 1;
        facility = Some 4;
        severity = Some 2;
        timestamp = Some (record { seconds = seconds; nanos = nanos; digits = digits; offset = offset });
        host = place host 1;
        app = absent;
        procid = absent;
        msgid = absent;
        message = record { start = n + 25; len = 2 };
      };
      timestamp_text = place 6 n;
      has_message = true;
    }

abbrev claim : ℕ → ℤ → ℕ → ℕ → ℤ → ℕ → List (List ℕ) → Claim
claim n seconds nanos digits offset host params =
    record { reading = reading n seconds nanos digits offset host; elements = ((n + 16) ∷ 1 ∷ []) ∷ []; params = params }

abbrev row : ℕ → List ℕ
row n = 0 ∷ (n + 18) ∷ 1 ∷ (n + 21) ∷ 1 ∷ []

abbrev utc : List ℕ
utc = bytes "<34>1 1970-01-01T00:00:00Z h - - - [t a=\"1\"] ok"

abbrev plus : List ℕ
plus = bytes "<34>1 1970-01-01T00:00:00+00:00 h - - - [t a=\"1\"] ok"

abbrev minus : List ℕ
minus = bytes "<34>1 1970-01-01T00:00:00-00:00 h - - - [t a=\"1\"] ok"

abbrev east : List ℕ
east = bytes "<34>1 1970-01-01T01:00:00.050+01:00 h - - - [t a=\"1\"] ok"

abbrev west : List ℕ
west = bytes "<34>1 1970-01-01T00:00:00.000001-23:59 h - - - [t a=\"1\"] ok"

-- offset 0 as Z and with both signs, a fraction with its digits, the largest offset and the most digits
told_yes : (holds utc (claim 20 (pos 0) 0 0 (pos 0) 27 (row 20 ∷ []))
    ∷ holds plus (claim 25 (pos 0) 0 0 (pos 0) 32 (row 25 ∷ []))
    ∷ holds minus (claim 25 (pos 0) 0 0 (pos 0) 32 (row 25 ∷ []))
    ∷ holds east (claim 29 (pos 0) 50000000 3 (pos 60) 36 (row 29 ∷ []))
    ∷ holds west (claim 32 (pos 86340) 1000 6 (negsuc 1438) 39 (row 32 ∷ []))
    ∷ [])
    ≡ true ∷ true ∷ true ∷ true ∷ true ∷ []
unfolding holds head_next stamp_next text_next param_next id_next byte_next fixed width_from lead_of utf8_from leap month_days year_days days_before_year days_of_months span_from year_of month_of clock_of shown
told_yes = refl

-- the claim of the line's division
divided : claim_of (record {
  prival = bytes "34";
  version = bytes "1";
  timestamp = some (record {
    year = bytes "1970";
    month = bytes "01";
    day = bytes "01";
    hour = bytes "01";
    minute = bytes "00";
    second = bytes "00";
    secfrac = some (bytes "050");
    offset = Offset.east (bytes "01") (bytes "00");
  });
  hostname = bytes "h";
  app_name = bytes "-";
  procid = bytes "-";
  msgid = bytes "-";
  elements = record { id = bytes "t"; params = record { name = bytes "a"; value = bytes "1" } ∷ [] } ∷ [];
  message = some (bytes "ok");
})
    ≡ claim 29 (pos 0) 50000000 3 (pos 60) 36 (row 29 ∷ [])
unfolding claim_of record_of decimal_from seconds_of local_seconds day_number leap month_days year_days days_before_year days_of_months
divided = refl

told_no : ( -- Z claimed as +60, the same instant; -00:00 as +1; another digit count; other nanoseconds; a second off
    holds utc (claim 20 (pos 0) 0 0 (pos 60) 27 (row 20 ∷ []))
    ∷ holds utc (claim 20 (negsuc 3599) 0 0 (pos 60) 27 (row 20 ∷ []))
    ∷ holds minus (claim 25 (negsuc 59) 0 0 (pos 1) 32 (row 25 ∷ []))
    ∷ holds east (claim 29 (pos 0) 50000000 2 (pos 60) 36 (row 29 ∷ []))
    ∷ holds east (claim 29 (pos 0) 51000000 3 (pos 60) 36 (row 29 ∷ []))
    ∷ holds plus (claim 25 (pos 1) 0 0 (pos 0) 32 (row 25 ∷ []))
    -- a host one byte on, an entry too many, one too few, another element's number
    ∷ holds utc (claim 20 (pos 0) 0 0 (pos 0) 28 (row 20 ∷ []))
    ∷ holds utc (claim 20 (pos 0) 0 0 (pos 0) 27 (row 20 ∷ row 20 ∷ []))
    ∷ holds utc (claim 20 (pos 0) 0 0 (pos 0) 27 [])
    ∷ holds utc (claim 20 (pos 0) 0 0 (pos 0) 27 ((1 ∷ 38 ∷ 1 ∷ 41 ∷ 1 ∷ []) ∷ []))
    ∷ [])
    ≡ false ∷ false ∷ false ∷ false ∷ false ∷ false ∷ false ∷ false ∷ false ∷ false ∷ []
unfolding holds head_next stamp_next text_next param_next id_next byte_next fixed width_from lead_of utf8_from leap month_days year_days days_before_year days_of_months span_from year_of month_of clock_of shown
told_no = refl

-- ---- a line with no timestamp

-- process id and message id absent, no element
abbrev plain : Protocol → ℕ → ℕ → Place → Place → ℕ → ℕ → StrictRecord
plain protocol facility severity host app start len =
    record {
      common = record {
        protocol = protocol;
        facility = Some facility;
        severity = Some severity;
        timestamp = None;
        host = host;
        app = app;
        procid = absent;
        msgid = absent;
        message = record { start = start; len = len };
      };
      timestamp_text = absent;
      has_message = true;
    }

abbrev bare : StrictRecord → Claim
bare r = record { reading = r; elements = []; params = [] }

abbrev short : List ℕ
short = bytes "<191>999 - h - - - - m"

abbrev dashed : List ℕ
dashed = bytes "<0>1 - - a - - - m"

-- the numbers' limits; an absent text is start and length 0, and "-" is absent
numbers_held : (holds short (bare (plain (Rfc5424 999) 23 7 (place 11 1) absent 21 1))
    ∷ holds dashed (bare (plain (Rfc5424 1) 0 0 absent (place 9 1) 17 1))
    ∷ holds short (bare (plain (Rfc5424 998) 23 7 (place 11 1) absent 21 1))
    ∷ holds short (bare (plain Rfc3164 23 7 (place 11 1) absent 21 1))
    ∷ holds short (bare (plain (Rfc5424 999) 22 15 (place 11 1) absent 21 1))
    ∷ holds short (bare (plain (Rfc5424 999) 23 7 (place 11 1) (place 13 1) 21 1))
    ∷ holds short (bare (plain (Rfc5424 999) 23 7 (place 11 1) (record { present = false; start = 13; len = 1 }) 21 1))
    ∷ holds short (bare (plain (Rfc5424 999) 23 7 (place 11 1) absent 20 2))
    ∷ holds short (bare (plain (Rfc5424 999) 23 7 (place 11 1) absent 21 0))
    ∷ [])
    ≡ true ∷ true ∷ false ∷ false ∷ false ∷ false ∷ false ∷ false ∷ false ∷ []
unfolding holds head_next stamp_next text_next byte_next fixed width_from
numbers_held = refl

-- ---- values and ids

-- of `<1>1 - - - - - [..] m`, whose message starts there
abbrev listed : ℕ → List (List ℕ) → List (List ℕ) → Claim
listed start elements params =
    record {
      reading = record {
        common = record {
          protocol = Rfc5424 1;
          facility = Some 0;
          severity = Some 1;
          timestamp = None;
          host = absent;
          app = absent;
          procid = absent;
          msgid = absent;
          message = record { start = start; len = 1 };
        };
        timestamp_text = absent;
        has_message = true;
      };
      elements = elements;
      params = params;
    }

-- backslash pairs from the left, a value that ends in a lone one, a bare bracket; ids that differ in case, and the same id twice
values_held : (holds (bytes "<1>1 - - - - - [t a=\"\\\\\\]\"] m") (listed 28 ((16 ∷ 1 ∷ []) ∷ []) ((0 ∷ 18 ∷ 1 ∷ 21 ∷ 4 ∷ []) ∷ []))
    ∷ holds (bytes "<1>1 - - - - - [t a=\"x\\\"] m") (listed 26 ((16 ∷ 1 ∷ []) ∷ []) ((0 ∷ 18 ∷ 1 ∷ 21 ∷ 2 ∷ []) ∷ []))
    ∷ holds (bytes "<1>1 - - - - - [t a=\"x]\"] m") (listed 26 ((16 ∷ 1 ∷ []) ∷ []) ((0 ∷ 18 ∷ 1 ∷ 21 ∷ 2 ∷ []) ∷ []))
    ∷ holds (bytes "<1>1 - - - - - [t][T] m") (listed 22 ((16 ∷ 1 ∷ []) ∷ (19 ∷ 1 ∷ []) ∷ []) [])
    ∷ holds (bytes "<1>1 - - - - - [t][t] m") (listed 22 ((16 ∷ 1 ∷ []) ∷ (19 ∷ 1 ∷ []) ∷ []) [])
    ∷ [])
    ≡ true ∷ false ∷ false ∷ true ∷ false ∷ []
unfolding holds head_next stamp_next text_next param_next id_next byte_next fixed width_from lead_of utf8_from
values_held = refl

-- ---- 7 before 16: the place of the timestamp's text is a place like the others

suited : (claim_suits short (plain (Rfc5424 998) 23 7 (place 11 1) absent 21 1) 0 0 [] []
    ∷ claim_suits short (plain (Rfc5424 999) 23 7 (place 11 1) absent 21 2) 0 0 [] []
    ∷ claim_suits short (record {
      common = (plain (Rfc5424 999) 23 7 (place 11 1) absent 21 1).common;
      timestamp_text = record { present = false; start = 22; len = 1 };
      has_message = true;
    }) 0 0 [] []
    ∷ claim_suits short (plain (Rfc5424 999) 23 7 (place 11 1) absent 21 1) 1 0 [] []
    ∷ [])
    ≡ true ∷ false ∷ false ∷ false ∷ []
unfolding suits record_suits tables_suit elements_suit params_suit
suited = refl

-- entries past the counts are of no account
past_the_counts : claim_in (plain (Rfc5424 1) 0 0 absent absent 0 0) 1 0 ((3 ∷ 4 ∷ []) ∷ (5 ∷ 6 ∷ []) ∷ []) ((0 ∷ 1 ∷ 2 ∷ 3 ∷ 4 ∷ []) ∷ [])
    ≡ record { reading = plain (Rfc5424 1) 0 0 absent absent 0 0; elements = (3 ∷ 4 ∷ []) ∷ []; params = [] }
past_the_counts = refl
